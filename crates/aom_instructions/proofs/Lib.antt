mod Again
mod Finding
mod Opcodes
mod Sorts
pub mod InstructionsLemmas
