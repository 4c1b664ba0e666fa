-- The objects of the class with the numbers so far are counted.
use Rattle.std.proofs.Common.{◌≡◌, ◌≤◌}
use Rattle.aom_cells.specs.Heap.{class_at}
use Rattle.aom_debug_views.specs.CellViews.{counted, is_class}
use Rattle.aom_debug_views.proofs.cells.count_class.Given as goal

abbrev pub invariant-loop-number : goal.invariant-loop-number
invariant-loop-number l = record { few : l.count ≤ l.number; count : l.count ≡ counted (λ n. is_class l.class (class_at l.parts.cells n)) l.number }
