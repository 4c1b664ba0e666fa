mod Steps
mod Counting
mod WellRead
mod Images
pub mod AsmLemmas
pub use Rattle.aom_image.proofs.ImageLemmas
pub use Rattle.aom_syntax.proofs.SyntaxLemmas
