mod Classes
mod Keeping
mod Overridden
mod Greatest
mod Lined
mod Climbing
mod Raised
mod Destroyed
mod Found
mod Mentioned
mod Most
mod FieldState
mod Limits
mod Examples
mod Quiet
mod Rounds
mod Passing
mod Placing
mod Exits
mod Visiting
mod Starting
mod Priced
mod Budgeting
pub mod BudgetLemmas
pub use Rattle.aom_link_conditions.proofs.LinkConditionsLemmas
pub use Rattle.aom_image.proofs.ImageLemmas
pub use Rattle.aom_instructions.proofs.InstructionsLemmas
pub use Rattle.aom_linker.proofs.LinkerLemmas
pub use Rattle.aom_roles.proofs.RolesLemmas
pub use Rattle.aom_typing_rules.proofs.TypingRulesLemmas
pub use Rattle.aom_abstract_state.proofs.AbstractStateLemmas
pub use Rattle.aom_static_bounds.proofs.StaticBoundsLemmas
pub use Rattle.aom_verify.proofs.VerifyLemmas
