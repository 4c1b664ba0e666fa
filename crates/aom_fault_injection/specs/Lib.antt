pub mod Injections
pub mod Planned
pub mod Expected
pub mod OutcomeTables
