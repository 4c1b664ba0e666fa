mod Told
mod Entries
mod First
mod Codes
mod Parts
pub use Rattle.aom_link_conditions.proofs.LinkConditionsLemmas
pub use Rattle.aom_abstract_state.proofs.AbstractStateLemmas
