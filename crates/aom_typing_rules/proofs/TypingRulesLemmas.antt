-- The lemmas that other crates cite; what else stands in these proofs is the crate's own.
pub use Rattle.aom_typing_rules.proofs.Reporting.{filled_more, none_from}
pub use Rattle.aom_typing_rules.proofs.Ways.{Leads, leads}
pub use Rattle.aom_typing_rules.proofs.Monotone.{flows_more, needs_more}
pub use Rattle.aom_typing_rules.proofs.Branching.{by_states}
pub use Rattle.aom_typing_rules.proofs.Growing.{arguments_leave, at_most_one_more, lasting_has}
