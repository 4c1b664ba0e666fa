-- What is planned is planned by that run.
use Rattle.std.proofs.Common.{Bool, length, subst}
use Rattle.aom_commands.specs.Explored.{HasPlain}
use Rattle.aom_commands.specs.Headline.{outside_of}
use Rattle.aom_commands.proofs.Tries.{plans}
use Rattle.aom_commands.proofs.exploring.plan_of.Goals as goal

pub returns-clause-ok : goal.returns-clause-ok
returns-clause-ok c =
    let trial = c.args.trial.now in
    let made = c.in_ok-plain.plain in
    let plain = subst (λ (b : Bool). HasPlain trial.accepted.now
    (outside_of trial.script.now trial.limit (length trial.kinds.now)) b made.last made.times.items) c.marks_times.ensures c.in_ok-plain.ensures.ok in
    plans trial.accepted.now trial.script.now trial.limit (length trial.kinds.now) c.args.tries made.last made.times.items _ c.in_ok-plan.plan.left plain
    (rw c.as_slice.ensures.value at c.in_ok-plan.ensures.injections) c.in_ok-plan.ensures.left
