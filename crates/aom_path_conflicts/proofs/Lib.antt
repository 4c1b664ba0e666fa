mod Edges
mod Leading
mod Arriving
pub mod PathConflictsLemmas
pub use Rattle.aom_verify.proofs.VerifyLemmas
