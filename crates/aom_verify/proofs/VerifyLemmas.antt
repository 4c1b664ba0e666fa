-- The lemmas that other crates cite; what else stands in these proofs is the crate's own.
pub use Rattle.aom_verify.proofs.Following.{follow_met}
pub use Rattle.aom_verify.proofs.Visiting.{has_instr}
pub use Rattle.aom_verify.proofs.Ways.{rule_fails, rule_flows}
