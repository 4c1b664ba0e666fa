pub mod Body
pub mod TextNames
pub mod Denoted
