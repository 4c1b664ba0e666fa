mod Acceptance
mod Boxes
mod Refusing
mod Sending
mod Reporting
mod Tries
mod Meaning
mod Figuring
mod Translated
mod Untelling
pub mod CommandsLemmas
pub use Rattle.aom_asm.proofs.AsmLemmas
pub use Rattle.aom_budget.proofs.BudgetLemmas
pub use Rattle.aom_determinism.proofs.DeterminismLemmas
pub use Rattle.aom_machine.proofs.MachineLemmas
pub use Rattle.aom_asm_semantics.proofs.AsmSemanticsLemmas
pub use Rattle.aom_script.proofs.ScriptLemmas
pub use Rattle.aom_transcript.proofs.TranscriptLemmas
pub use Rattle.aom_static_bounds.proofs.StaticBoundsLemmas
