-- The lemmas that other crates cite; what else stands in these proofs is the crate's own.
pub use Rattle.aom_termination.proofs.Rounds.{rank_term_alike}
pub use Rattle.aom_termination.proofs.Ranking.{moves_lower_ranks}
pub use Rattle.aom_termination.proofs.Goings.{cells_stand_or_go}
pub use Rattle.aom_termination.proofs.Arriving.{leads_on}
pub use Rattle.aom_termination.proofs.Pushed.{asked_same, reset_same, served_same, withdrawn_same}
pub use Rattle.aom_termination.proofs.Counted.{none_counted, steps_counted}
pub use Rattle.aom_termination.proofs.Turns.{picking}
pub use Rattle.aom_termination.proofs.BudgetOwners.{begun_budget_owner, budget_owners}
pub use Rattle.aom_termination.proofs.Within.{declared_fits}
