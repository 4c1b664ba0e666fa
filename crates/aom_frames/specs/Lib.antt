pub mod Slots
pub mod Tasks
pub mod Views
pub mod Words
pub mod Items
