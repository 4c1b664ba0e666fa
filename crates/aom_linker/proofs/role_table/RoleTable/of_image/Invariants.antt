use Rattle.std.proofs.Common.{◌≡◌, ℕ, length, IfSome, slice_get}
use Rattle.aom_linker.specs.Table.{IsRow}
use Rattle.aom_linker.proofs.role_table.RoleTable.of_image.Given as goal

abbrev pub invariant-loop-class : goal.invariant-loop-class
invariant-loop-class l = record {
  size : length l.rows.items ≡ l.class;
  rows : (c : ℕ) → IfSome (slice_get l.rows.items c) (IsRow l.image c);
}
