-- The lemmas that other crates cite; what else stands in these proofs is the crate's own.
pub use Rattle.aom_disassembler.proofs.Split.{listing_splits, words_placed}
