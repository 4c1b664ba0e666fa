mod Lines
mod Executing
mod ExecutingLines
mod SessionInvariants
mod Reading
mod Statuses
mod Starting
mod Moving
mod Placing
mod Declining
mod Answering
mod Reached
mod Printed
mod Watched
mod ReadBack
pub use Rattle.aom_commands.proofs.CommandsLemmas
pub use Rattle.aom_debug_stepping.proofs.DebugSteppingLemmas
pub use Rattle.aom_debug_paths.proofs.DebugPathsLemmas
pub use Rattle.aom_debug_views.proofs.DebugViewsLemmas
pub use Rattle.aom_debug_protocol.proofs.DebugProtocolLemmas
pub use Rattle.aom_asm_semantics.proofs.AsmSemanticsLemmas
pub use Rattle.aom_script.proofs.ScriptLemmas
