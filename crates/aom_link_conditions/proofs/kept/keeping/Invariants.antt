-- Which of the classes looked at have a method.
use Rattle.std.proofs.Common.{ℕ, IfSome, IsTrue, length, slice_get, ◌≡◌, ◌↔◌}
use Rattle.aom_link_conditions.specs.Needs.{Has}
use Rattle.aom_link_conditions.proofs.kept.keeping.Given as goal

abbrev pub invariant-loop-class : goal.invariant-loop-class
invariant-loop-class l = record {
  size : length l.flags.items ≡ l.class;
  each : (c : ℕ) → IfSome (slice_get l.flags.items c) (λ b. IsTrue b ↔ Has l.image c l.role);
}
