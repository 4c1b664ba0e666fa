mod Over
mod Reporting
mod Hanging
mod Showing
mod Trees
mod Enlisted
mod DueTimes
mod Orders
mod Counting
mod Tasks
mod Registers
mod Sums
mod Once
mod Words
mod Contents
mod Numbers
mod Spaced
mod SeriesPlaces
mod Sought
mod Texts
pub mod DebugViewsLemmas
pub use Rattle.aom_link_conditions.proofs.LinkConditionsLemmas
pub use Rattle.aom_clients.proofs.ClientsLemmas
pub use Rattle.aom_machine.proofs.MachineLemmas
pub use Rattle.aom_machine_instructions.proofs.MachineInstructionsLemmas
pub use Rattle.aom_machine_state.proofs.MachineStateLemmas
pub use Rattle.aom_safety.proofs.SafetyLemmas
pub use Rattle.aom_scheduler.proofs.SchedulerLemmas
pub use Rattle.aom_semantics.proofs.SemanticsLemmas
pub use Rattle.aom_static_bounds.proofs.StaticBoundsLemmas
