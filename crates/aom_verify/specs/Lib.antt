pub mod Arrivals
pub mod Change
pub mod Entries
pub mod States
pub mod Sweep
pub mod Faults
pub mod Refusals
