mod Bodies
mod Descending
mod Inheriting
mod Staying
mod Weighing
mod Running
pub mod InheritanceLemmas
pub use Rattle.aom_link_conditions.proofs.LinkConditionsLemmas
pub use Rattle.aom_image.proofs.ImageLemmas
pub use Rattle.aom_roles.proofs.RolesLemmas
