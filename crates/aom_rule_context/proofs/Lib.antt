mod Arguments
mod Calling
mod Past
mod Returning
pub use Rattle.aom_typing_rules.proofs.TypingRulesLemmas
pub use Rattle.aom_abstract_state.proofs.AbstractStateLemmas
