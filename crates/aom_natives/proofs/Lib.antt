mod Adopting
mod Delays
mod Ids
mod Lines
mod Slots
pub mod NativesLemmas
