mod Numbers
mod Names
mod Tables
mod Readings
mod OperandsBack
mod InstructionsBack
mod Labels
mod Statements
mod HeadersBack
mod Lists
mod ClassesBack
mod Methods
mod Following
mod Parts
mod TextNames
mod WholesBack
mod Assembling
mod Quiet
mod Ascii
mod Pieces
mod Words
mod Sound
mod Headers
mod Declared
mod Classes
mod Headings
mod Operands
mod Places
mod Instructions
mod Texts
mod Wholes
mod Parsed
mod Denoting
mod Pairs
mod Examples
pub mod AsmSemanticsLemmas
pub use Rattle.aom_asm.proofs.AsmLemmas
pub use Rattle.aom_image.proofs.ImageLemmas
pub use Rattle.aom_instructions.proofs.InstructionsLemmas
pub use Rattle.aom_disassembler.proofs.DisassemblerLemmas
pub use Rattle.aom_syntax.proofs.SyntaxLemmas
