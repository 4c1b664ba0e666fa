-- There is a new native for each kind so far, in their order.
use Rattle.aom.proofs.CommandsLemmas.{Made}
use Rattle.aom.proofs.run_files.OwnLists.{own-1}
use Rattle.aom.proofs.run_files.Given as goal

abbrev pub invariant-loop-kind : goal.invariant-loop-kind
invariant-loop-kind g l = Made (λ b. record {
  owed = (own-1.entry b.vtable).1.owed b.value;
  open_may = (own-1.entry b.vtable).1.open_may b.value;
  start_may = (own-1.entry b.vtable).1.start_may b.value;
  call_may = (own-1.entry b.vtable).1.call_may b.value;
  poll_may = (own-1.entry b.vtable).1.poll_may b.value;
}) l.fn.kinds l.boxes.items l.kind-index
