pub mod Agrees
pub mod Meanings
pub mod Aborts
pub mod Turns
