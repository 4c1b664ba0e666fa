pub mod Budgets
pub mod Listing
pub mod Map
pub mod Refusals
