pub mod Paths
pub mod Variables
