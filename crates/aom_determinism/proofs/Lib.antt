mod NamedCells
mod Serving
mod Commands
mod Lines
mod Naming
mod Needs
mod Doing
mod Turning
mod Steps
mod Observing
mod Polling
mod Oracles
mod Fresh
mod Keeping
mod Reclaiming
mod Moving
mod Remaining
mod Asking
mod Staying
mod Alike
mod TwoRuns
mod Cells
mod Services
mod Effects
mod Requests
mod Calls
mod Moves
mod Found
mod Turns
mod Runs
mod Spending
mod Remainders
mod Sorts
mod Ending
pub mod DeterminismLemmas
pub use Rattle.aom_active_objects.proofs.ActiveObjectsLemmas
pub use Rattle.aom_link_conditions.proofs.LinkConditionsLemmas
pub use Rattle.aom_termination.proofs.TerminationLemmas
pub use Rattle.aom_safety.proofs.SafetyLemmas
pub use Rattle.aom_semantics.proofs.SemanticsLemmas
