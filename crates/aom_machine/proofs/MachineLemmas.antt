-- The lemmas that other crates cite; what else stands in these proofs is the crate's own.
pub use Rattle.aom_machine.proofs.Waiting.{runs_typed}
pub use Rattle.aom_machine.proofs.Progressing.{has_task, between, is_as_far}
pub use Rattle.aom_machine.proofs.Affording.{affords}
pub use Rattle.aom_machine.proofs.Agreeing.{waits_under}
