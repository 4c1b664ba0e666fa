mod Adding
mod Leading
mod Places
mod Serving
mod Ways
pub use Rattle.aom_roles.proofs.RolesLemmas
pub use Rattle.aom_link_conditions.proofs.LinkConditionsLemmas
