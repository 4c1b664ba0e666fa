-- The lemmas that other crates cite; what else stands in these proofs is the crate's own.
pub use Rattle.aom_determinism.proofs.Polling.{nothing_is_observed}
pub use Rattle.aom_determinism.proofs.Oracles.{each_run_follows}
pub use Rattle.aom_determinism.proofs.Alike.{alike_counted}
pub use Rattle.aom_determinism.proofs.Cells.{native_served}
pub use Rattle.aom_determinism.proofs.Calls.{for_one}
pub use Rattle.aom_determinism.proofs.Moves.{moves_follow_calls}
pub use Rattle.aom_determinism.proofs.Found.{IsAbout}
pub use Rattle.aom_determinism.proofs.Turns.{Tale, sessions_turned, reported}
pub use Rattle.aom_determinism.proofs.Spending.{moved_spares, picked_pays}
pub use Rattle.aom_determinism.proofs.Remainders.{event_there}
pub use Rattle.aom_determinism.proofs.Ending.{above, runs_can_end, top}
