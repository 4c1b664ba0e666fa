-- The lemmas that other crates cite; what else stands in these proofs is the crate's own.
pub use Rattle.aom_inheritance.proofs.Bodies.{bodies_are_alike}
pub use Rattle.aom_inheritance.proofs.Inheriting.{continued, families_inherit}
pub use Rattle.aom_inheritance.proofs.Weighing.{keeper, weights_fall}
pub use Rattle.aom_inheritance.proofs.Running.{body_runs, overrides_there}
