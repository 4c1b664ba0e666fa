-- The runs are of an accepted image. Where one was not made, or the output failed, that is left to be told.
use Rattle.std.proofs.Common.{length}
use Rattle.aom_fault_injection.specs.Expected.{exploration_of}
use Rattle.aom_commands.proofs.Acceptance.{acceptable_of}
use Rattle.aom_commands.proofs.Reporting.{broken_off, told_so}
use Rattle.aom_commands.proofs.exploring.explore_script.Goals as goal

pub returns-in-Err : goal.returns-in-Err
returns-in-Err g c =
    let is = c.facts.ensures in
    λ bytes text serialized denotes errors status reported. broken_off bytes text c.args.trial.now.limit (length c.args.trial.now.kinds.now)
    c.args.trial.now.accepted.now c.args.trial.now.script.now (acceptable_of is.linked is.typed is.budgets is.within is.high) c.runs_well.ensures serialized
    denotes (exploration_of c.args.options) _ errors c.in-Err.fault status c.in-Err.ensures.err reported

pub returns-in-Ok : goal.returns-in-Ok
returns-in-Ok g c =
    let is = c.facts.ensures in
    λ bytes text serialized denotes. told_so bytes text c.args.trial.now.limit (length c.args.trial.now.kinds.now) c.args.trial.now.accepted.now
    c.args.trial.now.script.now (acceptable_of is.linked is.typed is.budgets is.within is.high) c.runs_well.ensures serialized denotes
    (exploration_of c.args.options) _ c.in-Ok.unexpected c.status_of_runs.result c.in-Ok.ensures.enough c.in-Ok.ensures.ok
    c.status_of_runs.ensures.failed c.status_of_runs.ensures.none c.status_of_runs.ensures.some
