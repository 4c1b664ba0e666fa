-- The lemmas that other crates cite; what else stands in these proofs is the crate's own.
pub use Rattle.aom_debug_views.proofs.Reporting.{items_answered, part_same, reports_all, reports_next, reports_part, reports_same}
pub use Rattle.aom_debug_views.proofs.Showing.{as_many_items, class_named}
pub use Rattle.aom_debug_views.proofs.SeriesPlaces.{as_many}
pub use Rattle.aom_debug_views.proofs.Counting.{counted_next}
pub use Rattle.aom_debug_views.proofs.Tasks.{as_many_tasks}
