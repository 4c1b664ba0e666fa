mod Named
mod Serving
mod Moving
mod Asked
mod Stepped
mod Booted
mod Ending
mod Spared
mod Reaching
mod Gets
mod Turnings
mod Parts
mod Keeping
mod Between
mod Resting
mod Running
mod Underway
pub mod RunLemmas
pub use Rattle.aom_link_conditions.proofs.LinkConditionsLemmas
pub use Rattle.aom_determinism.proofs.DeterminismLemmas
pub use Rattle.aom_image.proofs.ImageLemmas
pub use Rattle.aom_machine.proofs.MachineLemmas
pub use Rattle.aom_natives.proofs.NativesLemmas
pub use Rattle.aom_safety.proofs.SafetyLemmas
pub use Rattle.aom_transcript.proofs.TranscriptLemmas
