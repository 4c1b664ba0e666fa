-- The lemmas that other crates cite; what else stands in these proofs is the crate's own.
pub use Rattle.aom_linker.proofs.Rows.{no_player}
