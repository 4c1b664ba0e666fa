mod OnTop
mod Running
mod GoingOn
mod WordActs
mod LoopActs
mod ObjectActs
mod MoveActs
mod FieldActs
mod RequestActs
mod EnlistActs
mod NativeActs
mod CallActs
mod CancelEnds
mod ServeActs
mod ReturnActs
mod GoneActs
mod GoingActs
mod Stepping
mod ReceiverHolding
mod RoomActs
mod RoomMoves
mod Counts
mod Rooms
mod Ends
mod StageEnds
mod Finding
mod Firsts
mod ClosingSessions
mod EnterActs
mod Traps
mod LeavingActs
mod LineActs
mod EntryActs
mod DealActs
mod Topping
mod Resulting
mod Standing
mod UnwindActs
mod Reclaiming
mod MessageActs
mod TokenActs
pub mod MachineInstructionsLemmas
pub use Rattle.aom_active_objects.proofs.ActiveObjectsLemmas
pub use Rattle.aom_link_conditions.proofs.LinkConditionsLemmas
pub use Rattle.aom_inheritance.proofs.InheritanceLemmas
pub use Rattle.aom_image.proofs.ImageLemmas
pub use Rattle.aom_instructions.proofs.InstructionsLemmas
pub use Rattle.aom_machine_state.proofs.MachineStateLemmas
pub use Rattle.aom_termination.proofs.TerminationLemmas
pub use Rattle.aom_roles.proofs.RolesLemmas
pub use Rattle.aom_safety.proofs.SafetyLemmas
pub use Rattle.aom_semantics.proofs.SemanticsLemmas
pub use Rattle.aom_abstract_state.proofs.AbstractStateLemmas
pub use Rattle.aom_static_bounds.proofs.StaticBoundsLemmas
