-- The lemmas that other crates cite; what else stands in these proofs is the crate's own.
pub use Rattle.aom_commands.proofs.Acceptance.{acceptable_of, accepts_of}
pub use Rattle.aom_commands.proofs.Boxes.{Made, all_made, none_made, one_more_made, owe_nothing, stands_same}
pub use Rattle.aom_commands.proofs.Reporting.{unaccepted, unscripted}
pub use Rattle.aom_commands.proofs.Tries.{given_all, has_enough, wants_memory}
pub use Rattle.aom_commands.proofs.Meaning.{makes, means_nothing}
pub use Rattle.aom_commands.proofs.Sending.{cut}
pub use Rattle.aom_commands.proofs.Untelling.{answered}
