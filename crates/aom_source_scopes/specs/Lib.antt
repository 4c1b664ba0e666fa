pub mod Blocks
pub mod Scopes
pub mod Tables
pub mod Words
