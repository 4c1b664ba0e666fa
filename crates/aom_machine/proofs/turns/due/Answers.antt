-- The timer that is due first is that of the checked machine.
use Rattle.aom_machine.proofs.Turning.{due_completes}
use Rattle.aom_machine.proofs.turns.due.Goals as goal

pub returns-clause-completed : goal.returns-clause-completed
returns-clause-completed c =
    λ p. rw c.is_some.ensures (due_completes p c.args.parts.now c.due.new.self c.requires.between c.due.result (rw c.clock.ensures at c.due.ensures.completes))
