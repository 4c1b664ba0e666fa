mod Sums
mod Bodies
mod Rounds
mod Places
mod Cells
mod RankTerms
mod Levels
mod Falling
mod Ranking
mod Goings
mod Arriving
mod Runs
mod Pushed
mod Lasting
mod Sessions
mod Classes
mod Covering
mod Paying
mod Counted
mod Emptied
mod Turns
mod BudgetOwners
mod Within
mod Examples
pub mod TerminationLemmas
pub use Rattle.aom_link_conditions.proofs.LinkConditionsLemmas
pub use Rattle.aom_inheritance.proofs.InheritanceLemmas
pub use Rattle.aom_image.proofs.ImageLemmas
pub use Rattle.aom_instructions.proofs.InstructionsLemmas
pub use Rattle.aom_roles.proofs.RolesLemmas
pub use Rattle.aom_safety.proofs.SafetyLemmas
pub use Rattle.aom_semantics.proofs.SemanticsLemmas
pub use Rattle.aom_static_bounds.proofs.StaticBoundsLemmas
