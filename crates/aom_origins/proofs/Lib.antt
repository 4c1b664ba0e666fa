mod Bringing
mod Finding
mod Needing
pub use Rattle.aom_abstract_state.proofs.AbstractStateLemmas
pub use Rattle.aom_verify.proofs.VerifyLemmas
pub use Rattle.aom_path_conflicts.proofs.PathConflictsLemmas
