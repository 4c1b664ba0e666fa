pub mod Answers
pub mod Beginning
pub mod Sessions
pub mod Observing
pub mod SessionLoop
pub mod Commands
pub mod Courses
pub mod Debugging
pub mod Printing
pub mod Watching
pub mod Executing
-- what a session says of commands: by which courses they go, and when their lines are cut
pub use Rattle.aom_debug_stepping.specs.RunGoals
pub use Rattle.aom_debug_views.specs.Reporting
pub use Rattle.aom_debug_stepping.specs.Runners
pub use Rattle.aom_debug_stepping.specs.Turns
