mod Waiting
mod NextPlaces
mod Announcing
mod Lasting
mod Ranking
mod Progressing
mod Counting
mod Turning
mod Timers
mod Served
mod Polling
mod Killing
mod Affording
mod Paying
mod Booting
mod StepLines
mod Settled
mod Working
mod RunsAfter
mod Unwanted
mod Wanting
mod Many
mod AtOnce
mod Onward
mod Agreeing
mod Seen
mod FirstServer
mod Beginning
mod Dispatching
mod Taking
mod Answering
mod ByCommand
mod Commanded
mod Commands
mod Forgotten
mod Observed
mod Idle
mod Noting
mod Executed
mod Executing
mod Queued
mod Begun
mod Staying
pub mod MachineLemmas
pub use Rattle.aom_active_objects.proofs.ActiveObjectsLemmas
pub use Rattle.aom_link_conditions.proofs.LinkConditionsLemmas
pub use Rattle.aom_determinism.proofs.DeterminismLemmas
pub use Rattle.aom_image.proofs.ImageLemmas
pub use Rattle.aom_instructions.proofs.InstructionsLemmas
pub use Rattle.aom_machine_instructions.proofs.MachineInstructionsLemmas
pub use Rattle.aom_machine_state.proofs.MachineStateLemmas
pub use Rattle.aom_termination.proofs.TerminationLemmas
pub use Rattle.aom_safety.proofs.SafetyLemmas
pub use Rattle.aom_scheduler.proofs.SchedulerLemmas
pub use Rattle.aom_semantics.proofs.SemanticsLemmas
