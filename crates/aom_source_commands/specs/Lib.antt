pub mod Compiling
pub mod Judging
pub mod Mapping
pub mod Scripts
pub mod Sending
pub mod Showing
pub mod Telling
