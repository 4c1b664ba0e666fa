-- The lemmas that other crates cite; what else stands in these proofs is the crate's own.
pub use Rattle.aom_active_objects.proofs.Lists.{id_of}
pub use Rattle.aom_active_objects.proofs.Halves.{Timely, timely_kept, timely_without, timer_anew}
pub use Rattle.aom_active_objects.proofs.Cells.{asked_lives}
pub use Rattle.aom_active_objects.proofs.Choosing.{none_picked, picked}
pub use Rattle.aom_active_objects.proofs.Firsts.{first_timer}
pub use Rattle.aom_active_objects.proofs.DueTimes.{due_first, next_due_is, none_due, not_both, running}
pub use Rattle.aom_active_objects.proofs.Asking.{are_wanted, asked_gone, asked_new, asked_set, newest, newest_timer, queue_same, queued_gone}
pub use Rattle.aom_active_objects.proofs.Asking.{queued_same}
pub use Rattle.aom_active_objects.proofs.Reporting.{held_state, status_is_determined, reported_active, reported_busy, reported_cancelling, reported_enlisted, reported_fresh, reported_over}
pub use Rattle.aom_active_objects.proofs.Reporting.{reported_server, reported_state, reported_status}
