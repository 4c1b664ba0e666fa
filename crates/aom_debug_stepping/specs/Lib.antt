pub mod Next
pub mod Runners
pub mod Moves
pub mod Sends
pub mod Laws
pub mod Over
pub mod Stops
pub mod SourceLines
pub mod RunGoals
pub mod RunGoalLaws
-- what is said of the machine and of its runs, for those who say it of a debugger
pub use Rattle.aom_machine.specs.Steps
pub use Rattle.aom_run.specs.Calls
pub use Rattle.aom_run.specs.Turns
