pub mod Lists
pub mod CircularLists
pub mod Table
pub mod Clients
pub mod Nodes
pub mod Withdrawals
pub mod Parts
