pub mod Called
pub mod Made
pub mod Fields
pub mod Registers
pub mod Reached
pub mod Warnings
