pub mod Standing
pub mod Trees
pub mod Unique
pub mod Weights
