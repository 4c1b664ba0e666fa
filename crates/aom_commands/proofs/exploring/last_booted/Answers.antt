-- The machine tells how its run ended, and its transcript is what is kept.
use Rattle.std.proofs.Common.{◌∙◌, ap, arith}
use Rattle.aom_commands.proofs.Tries.{last_so}
use Rattle.aom_commands.proofs.exploring.last_booted.Goals as goal

pub run-outcome-requires-clause-room : goal.run-outcome-requires-clause-room
run-outcome-requires-clause-room g c = rw (c.requires.fresh.0, c.in_ok-lines.ensures.room) (omega arith)

pub returns-clause-ok : goal.returns-clause-ok
returns-clause-ok g c = last_so _ c.args.machine.now c.run-outcome.new.machine _ _ _ _ _ _ _ _ c.requires.fresh.0 c.in-Some.ensures
    (rw c.in_ok-lines.ensures.refused at c.run-outcome.ensures.ran)
    (λ s beside. (c.count.ensures ∙ beside.stands.agrees.cells.count, c.requests.ensures ∙ ap (λ r. r.requests) beside.stands.agrees.rest))
