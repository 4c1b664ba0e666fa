use Rattle.aom_scheduler.proofs.Keys.{Renewed}
use Rattle.aom_scheduler.proofs.order.next_turn.Given as goal

abbrev pub invariant-loop-at : goal.invariant-loop-at
invariant-loop-at l = Renewed l.entries.items l.initial.keys.items l.keys.items l.at
