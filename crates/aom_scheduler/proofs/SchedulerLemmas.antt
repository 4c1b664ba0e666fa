-- The lemmas that other crates cite; what else stands in these proofs is the crate's own.
pub use Rattle.aom_scheduler.proofs.Items.{All-placed, AreDistinct, IsAbsent, IsAt, IsRanking, at_head, in_tail, own-place, pairs-head, pairs-nil, pairs-tail}
pub use Rattle.aom_scheduler.proofs.Items.{place-absent, place-at, some_is, without-absent, without-at}
pub use Rattle.aom_scheduler.proofs.Places.{by_priority, marked-place}
pub use Rattle.aom_scheduler.proofs.Timing.{absent-due, by_due, due-at, due-each, stands-if_set}
