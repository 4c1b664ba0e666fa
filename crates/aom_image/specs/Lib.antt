pub mod Image
pub mod Views
pub mod Roles
pub mod WellFormed
pub mod Small
