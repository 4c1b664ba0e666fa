mod Numbering
mod Onward
mod Worded
mod Queues
mod Named
pub mod DebugPathsLemmas
pub use Rattle.aom_debug_views.proofs.DebugViewsLemmas
pub use Rattle.aom_machine_instructions.proofs.MachineInstructionsLemmas
