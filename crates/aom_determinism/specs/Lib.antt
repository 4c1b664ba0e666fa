pub mod Names
pub mod There
pub mod Observing
pub mod Determined
pub mod Owed
pub mod Laws
pub mod Endings
