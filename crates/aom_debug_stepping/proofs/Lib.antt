mod NextPlaces
mod Keeping
mod Sending
mod DebugSteps
mod Going
mod Turning
mod Scopes
mod Typed
mod Changing
mod Passing
mod Limits
mod Leaving
mod Runs
mod SourceSteps
pub mod DebugSteppingLemmas
pub use Rattle.aom_image.proofs.ImageLemmas
pub use Rattle.aom_machine.proofs.MachineLemmas
pub use Rattle.aom_machine_instructions.proofs.MachineInstructionsLemmas
pub use Rattle.aom_machine_state.proofs.MachineStateLemmas
pub use Rattle.aom_run.proofs.RunLemmas
pub use Rattle.aom_semantics.proofs.SemanticsLemmas
pub use Rattle.aom_transcript.proofs.TranscriptLemmas
