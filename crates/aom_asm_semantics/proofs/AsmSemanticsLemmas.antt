-- The lemmas that other crates cite; what else stands in these proofs is the crate's own.
pub use Rattle.aom_asm_semantics.proofs.Numbers.{all_digits, number_of_decimal, within}
pub use Rattle.aom_asm_semantics.proofs.Statements.{label_cut}
pub use Rattle.aom_asm_semantics.proofs.Assembling.{listing_assembles}
pub use Rattle.aom_asm_semantics.proofs.Denoting.{denotes_read, read_denotes}
