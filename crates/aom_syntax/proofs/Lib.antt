mod Within
mod Numbers
mod RangedNames
mod RangedOperands
mod RangedInstructions
mod RangedHeaders
mod RangedLists
mod RangedClasses
mod RangedStates
mod RangedHeadings
mod Lists
mod Places
pub mod SyntaxLemmas
pub use Rattle.aom_image.proofs.ImageLemmas
pub use Rattle.aom_instructions.proofs.InstructionsLemmas
pub use Rattle.aom_text.proofs.TextLemmas
