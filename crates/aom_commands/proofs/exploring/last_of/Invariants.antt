-- There is a new native for each kind so far, in their order.
use Rattle.aom_commands.proofs.Boxes.{Made}
use Rattle.aom_commands.proofs.exploring.last_of.OwnLists.{own-1}
use Rattle.aom_commands.proofs.exploring.last_of.Given as goal

abbrev pub invariant-loop-kind : goal.invariant-loop-kind
invariant-loop-kind l = Made (λ b. record {
  owed = (own-1.entry b.vtable).1.owed b.value;
  open_may = (own-1.entry b.vtable).1.open_may b.value;
  start_may = (own-1.entry b.vtable).1.start_may b.value;
  call_may = (own-1.entry b.vtable).1.call_may b.value;
  poll_may = (own-1.entry b.vtable).1.poll_may b.value;
}) l.fn.trial.kinds.now l.boxes.items l.kind-index
