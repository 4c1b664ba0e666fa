mod Nearest
mod Past
mod Refusing
mod Rows
mod Standing
mod Unoverridden
pub mod LinkerLemmas
pub use Rattle.aom_link_conditions.proofs.LinkConditionsLemmas
pub use Rattle.aom_roles.proofs.RolesLemmas
