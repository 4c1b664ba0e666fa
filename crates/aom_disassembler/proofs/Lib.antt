mod Behind
mod Lines
mod PlainWords
mod Split
mod Stated
mod Targets
pub mod DisassemblerLemmas
