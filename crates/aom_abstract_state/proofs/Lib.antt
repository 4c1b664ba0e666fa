mod Sets
mod Lists
mod Piling
mod Views
mod Deciding
mod Judging
mod Meeting
mod Starting
mod Emptying
mod Ordering
mod Moving
pub mod AbstractStateLemmas
pub use Rattle.aom_link_conditions.proofs.LinkConditionsLemmas
pub use Rattle.aom_image.proofs.ImageLemmas
pub use Rattle.aom_roles.proofs.RolesLemmas
