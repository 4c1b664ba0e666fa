-- The lemmas that other crates cite; what else stands in these proofs is the crate's own.
pub use Rattle.aom_debug_protocol.proofs.Marking.{none_kept}
