pub mod Wanted
pub mod Asked
pub mod Sentences
pub mod Laws
