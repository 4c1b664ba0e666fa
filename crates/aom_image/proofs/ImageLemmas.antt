-- The lemmas that other crates cite; what else stands in these proofs is the crate's own.
pub use Rattle.aom_image.proofs.Given.{cons_given, false_given, nil_given, none_given, some_given, true_given}
pub use Rattle.aom_image.proofs.Sets.{has_along, has_by, has_itself, shared}
pub use Rattle.aom_image.proofs.Standing.{action_there, transfer_there}
