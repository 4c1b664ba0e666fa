-- The lemmas that other crates cite; what else stands in these proofs is the crate's own.
pub use Rattle.aom_run.proofs.Serving.{cut_so}
pub use Rattle.aom_run.proofs.Spared.{moving_spares}
pub use Rattle.aom_run.proofs.Reaching.{moving_both, reaches_both, reaches_then, steps_on}
pub use Rattle.aom_run.proofs.Resting.{limit_cuts}
pub use Rattle.aom_run.proofs.Running.{fewer_left, left, lower}
