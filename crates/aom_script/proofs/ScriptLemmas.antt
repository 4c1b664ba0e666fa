-- The lemmas that other crates cite; what else stands in these proofs is the crate's own.
pub use Rattle.aom_script.proofs.Faulting.{IsOfText, is_of_text}
