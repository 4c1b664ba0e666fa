mod Behind
mod EachAnswer
mod EachTelling
mod Searching
mod Knowing
mod Pieces
mod Placing
mod Saying
mod Told
mod Untyped
mod Warning
pub use Rattle.aom_commands.proofs.CommandsLemmas
pub use Rattle.aom_abstract_state.proofs.AbstractStateLemmas
pub use Rattle.aom_static_bounds.proofs.StaticBoundsLemmas
pub use Rattle.aom_typing_rules.proofs.TypingRulesLemmas
pub use Rattle.aom_verify.proofs.VerifyLemmas
