-- The lemmas that other crates cite; what else stands in these proofs is the crate's own.
pub use Rattle.aom_diagnostics.proofs.Cuts.{part_first, part_no, part_yes}
