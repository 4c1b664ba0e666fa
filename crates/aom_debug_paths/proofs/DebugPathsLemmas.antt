-- The lemmas that other crates cite; what else stands in these proofs is the crate's own.
pub use Rattle.aom_debug_paths.proofs.Worded.{words_found, words_none}
pub use Rattle.aom_debug_paths.proofs.Queues.{queue_found, queue_none}
