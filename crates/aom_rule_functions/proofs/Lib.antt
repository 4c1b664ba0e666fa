mod Resting
mod Callees
pub use Rattle.aom_link_conditions.proofs.LinkConditionsLemmas
pub use Rattle.aom_roles.proofs.RolesLemmas
pub use Rattle.aom_abstract_state.proofs.AbstractStateLemmas
