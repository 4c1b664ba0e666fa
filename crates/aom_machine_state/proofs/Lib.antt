mod Found
mod Values
mod Entries
mod Overs
mod CellWords
mod Asking
mod Sessions
mod Cells
mod CellFields
mod Depths
mod Heights
mod Alike
mod SlotReleased
mod Messages
mod Serving
mod Completing
mod Withdrawing
mod Listing
mod Departing
mod Reclaiming
mod Elsewhere
mod Still
mod Premises
mod Tokens
mod Services
mod Servicing
mod Sizing
mod Commanding
mod Forgetting
mod Leaving
mod Reporting
mod Beside
mod Reported
mod Replying
mod Redeeming
mod Handing
mod Beginning
mod Owed
pub mod MachineStateLemmas
pub use Rattle.aom_active_objects.proofs.ActiveObjectsLemmas
pub use Rattle.aom_link_conditions.proofs.LinkConditionsLemmas
pub use Rattle.aom_clients.proofs.ClientsLemmas
pub use Rattle.aom_image.proofs.ImageLemmas
pub use Rattle.aom_safety.proofs.SafetyLemmas
pub use Rattle.aom_semantics.proofs.SemanticsLemmas
