pub mod Classes
pub mod Labels
pub mod Lines
pub mod Listing
pub mod Members
pub mod Methods
pub mod Own
