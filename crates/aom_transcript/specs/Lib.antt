pub mod Naming
pub mod Sinks
pub mod Text
