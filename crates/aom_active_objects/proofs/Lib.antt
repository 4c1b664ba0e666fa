mod Lists
mod Halves
mod Cells
mod Choosing
mod Firsts
mod Signals
mod DueTimes
mod Turns
mod Calls
mod Asking
mod Reporting
pub mod ActiveObjectsLemmas
pub use Rattle.aom_image.proofs.ImageLemmas
pub use Rattle.aom_safety.proofs.SafetyLemmas
pub use Rattle.aom_scheduler.proofs.SchedulerLemmas
pub use Rattle.aom_semantics.proofs.SemanticsLemmas
