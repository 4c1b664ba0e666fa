pub mod NameLists
pub mod Answers
pub mod Lines
pub mod Commands
pub mod Laws
