pub mod Declarations
pub mod Meanings
pub mod Spots
pub mod Words
