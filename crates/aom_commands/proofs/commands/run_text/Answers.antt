-- The run is one of an accepted image under what the text denotes. A text that is no script has a fault, and so has want of memory.
use Rattle.std.proofs.Common.{length, refl}
use Rattle.aom_transcript.specs.Naming.{named_by}
use Rattle.aom_commands.proofs.Acceptance.{acceptable_of, accepts_of}
use Rattle.aom_commands.proofs.Reporting.{ended_so, unscripted}
use Rattle.aom_commands.proofs.Untelling.{unreported_weaker}
use Rattle.aom_commands.proofs.commands.run_text.Goals as goal

pub returns-in-Ok : goal.returns-in-Ok
returns-in-Ok g c =
    let is = c.facts.ensures in
    λ bytes serialized. unreported_weaker _ _ c.end.result
    (λ errors status ends. ended_so (named_by c.args.names) _ _ _ _ _ _ (acceptable_of is.linked is.typed is.budgets is.within is.high) c.runs_well.ensures
    serialized c.in-Ok.ensures.ok _ _ c.run_accepted.result status c.run_accepted.ensures.enough c.run_accepted.ensures.ok c.run_accepted.ensures.err ends
    ) c.end.ensures

pub returns-in-Err : goal.returns-in-Err
returns-in-Err g c =
    let is = c.facts.ensures in
    λ bytes serialized errors status reported.
    unscripted (named_by c.args.names) bytes c.args.text.now c.args.limit (length c.args.boxes.items) c.in-Err.fault c.from.result _ errors status
    (accepts_of bytes c.args.accepted.now serialized is.linked is.typed is.budgets is.within is.high) c.in-Err.ensures.err refl c.from.ensures reported
