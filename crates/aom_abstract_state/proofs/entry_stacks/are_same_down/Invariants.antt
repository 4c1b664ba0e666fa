-- What is left of both decides.
use Rattle.std.proofs.Common.{◌≡◌}
use Rattle.aom_abstract_state.specs.EntryStacks.{entries_of, listed}
use Rattle.aom_abstract_state.specs.Tests.{same_entries}
use Rattle.aom_abstract_state.proofs.entry_stacks.are_same_down.Given as goal

abbrev pub invariant-loop-left : goal.invariant-loop-left
invariant-loop-left l = same_entries (entries_of l.a l.fn.one) (entries_of l.b l.fn.other) ≡ same_entries (listed l.left l.a l.first) (listed l.left l.b l.second)

abbrev pub decreases-loop-left : goal.decreases-loop-left
decreases-loop-left l = l.left
