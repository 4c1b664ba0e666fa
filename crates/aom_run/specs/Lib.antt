pub mod Answers
pub mod Calls
pub mod Beside
pub mod Outcomes
pub mod Runs
pub mod Turns
