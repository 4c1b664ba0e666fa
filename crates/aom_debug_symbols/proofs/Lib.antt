mod Unreported
mod Lined
mod Named
pub use Rattle.aom_diagnostics.proofs.DiagnosticsLemmas
