-- The lemmas that other crates cite; what else stands in these proofs is the crate's own.
pub use Rattle.aom_asm.proofs.Steps.{Started, no_ok, program_starts, said, started, steps_then}
pub use Rattle.aom_asm.proofs.Counting.{begins_with, found_passes}
pub use Rattle.aom_asm.proofs.WellRead.{class_bytes, class_sizes, serialized}
pub use Rattle.aom_asm.proofs.Images.{reads_well}
