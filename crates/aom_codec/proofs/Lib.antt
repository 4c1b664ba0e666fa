mod Lengths
mod Laws
mod Loops
mod Returning
mod OperandLaws
mod InstructionFits
mod Formats
mod Serialized
mod Fitting
mod Images
mod Putting
pub use Rattle.aom_image.proofs.ImageLemmas
pub use Rattle.aom_instructions.proofs.InstructionsLemmas
