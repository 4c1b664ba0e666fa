-- The rows so far.
use Rattle.std.proofs.Common.{ℕ, IfSome, length, ◌≡◌}
use Rattle.std.specs.Prelude.{slice_get}
use Rattle.aom_linker.specs.Bodies.{IsRowOf}
use Rattle.aom_linker.proofs.body_table.BodyTable.of_image.Given as goal

abbrev pub invariant-loop-class : goal.invariant-loop-class
invariant-loop-class l = record {
  size : length l.rows.items ≡ l.class;
  each : (c : ℕ) → IfSome (slice_get l.rows.items c) (IsRowOf l.image c);
}
