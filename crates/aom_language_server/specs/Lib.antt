pub mod Exchanges
pub mod Queries
pub mod Sessions
pub mod Stages
pub mod Telling
