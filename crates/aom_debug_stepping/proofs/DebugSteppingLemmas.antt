-- The lemmas that other crates cite; what else stands in these proofs is the crate's own.
pub use Rattle.aom_debug_stepping.proofs.Keeping.{observes_as, keeps_all}
pub use Rattle.aom_debug_stepping.proofs.Sending.{after_both, after_none, cut_next, cut_short, if_any}
pub use Rattle.aom_debug_stepping.proofs.Runs.{reaches_course}
