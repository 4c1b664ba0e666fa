mod Ordering
mod Falling
mod Joining
mod Ahead
mod Few
mod Keeping
mod Following
mod Ways
mod Visiting
mod Working
mod Sweeping
mod Stopping
mod Places
mod Refusing
pub mod VerifyLemmas
pub use Rattle.aom_link_conditions.proofs.LinkConditionsLemmas
pub use Rattle.aom_typing_rules.proofs.TypingRulesLemmas
pub use Rattle.aom_abstract_state.proofs.AbstractStateLemmas
pub use Rattle.aom_static_bounds.proofs.StaticBoundsLemmas
