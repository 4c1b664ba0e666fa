-- The lemmas that other crates cite; what else stands in these proofs is the crate's own.
pub use Rattle.aom_path_conflicts.proofs.Leading.{has_instr, has_no_instr, same_ways}
