mod Given
mod Lengths
mod Sets
mod Standing
pub mod ImageLemmas
