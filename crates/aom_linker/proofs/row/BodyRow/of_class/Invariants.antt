-- What calls run of the methods looked at.
use Rattle.std.proofs.Common.{ℕ, IfSome, Some, length, ◌≡◌}
use Rattle.std.specs.Prelude.{slice_get}
use Rattle.aom_link_conditions.specs.Overriding.{body_of}
use Rattle.aom_linker.proofs.row.BodyRow.of_class.Given as goal

abbrev pub invariant-loop-method : goal.invariant-loop-method
invariant-loop-method l = record {
  size : length l.bodies.items ≡ l.method;
  each : (m : ℕ) → IfSome (slice_get l.bodies.items m) (λ k. k ≡ body_of l.image m (Some l.class));
}
