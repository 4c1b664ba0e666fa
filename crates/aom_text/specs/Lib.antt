pub mod Faults
pub mod Names
pub mod Numbers
pub mod Text
pub mod Words
