mod Cuts
mod Sources
mod Found
mod Parts
pub mod DiagnosticsLemmas
pub use Rattle.aom_asm_semantics.proofs.AsmSemanticsLemmas
