mod Among
mod Lines
mod Maxima
mod Alone
mod Listed
mod Paid
mod Ways
mod Regions
mod At
mod Paths
mod Adding
mod Paying
mod Going
mod Worked
mod Related
mod Moving
mod LoopEscapes
mod Places
mod Methods
mod Making
mod Capped
mod Capping
mod Unique
mod Alike
mod Typings
mod Within
pub mod StaticBoundsLemmas
pub use Rattle.aom_link_conditions.proofs.LinkConditionsLemmas
pub use Rattle.aom_image.proofs.ImageLemmas
pub use Rattle.aom_instructions.proofs.InstructionsLemmas
pub use Rattle.aom_roles.proofs.RolesLemmas
pub use Rattle.aom_typing_rules.proofs.TypingRulesLemmas
pub use Rattle.aom_abstract_state.proofs.AbstractStateLemmas
