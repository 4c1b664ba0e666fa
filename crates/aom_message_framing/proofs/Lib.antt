pub mod Cutting
pub mod Heads
pub mod Passing
