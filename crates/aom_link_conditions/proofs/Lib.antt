mod Beginning
mod Bodies
mod Each
mod Facts
mod Finding
mod Keeping
mod Leading
mod LoopPlaces
mod Mentioning
mod Nested
mod Nesting
mod Once
mod Ordering
mod Places
mod Playing
mod Putting
mod Views
pub mod LinkConditionsLemmas
pub use Rattle.aom_image.proofs.ImageLemmas
pub use Rattle.aom_roles.proofs.RolesLemmas
pub use Rattle.aom_instructions.proofs.InstructionsLemmas
