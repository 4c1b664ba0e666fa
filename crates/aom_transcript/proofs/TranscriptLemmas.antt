-- The lemmas that other crates cite; what else stands in these proofs is the crate's own.
pub use Rattle.aom_transcript.proofs.Sending.{after_both, after_none, cut_next, cut_short, text_by_both, text_of_both}
