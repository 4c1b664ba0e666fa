pub mod Booting
pub mod Delays
pub mod Kinds
pub mod Lines
pub mod Owed
pub mod Slots
