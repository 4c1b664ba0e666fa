-- Those so far are counted, and it hangs from none of them.
use Rattle.std.proofs.Common.{◌≡◌, ◌≤◌, None}
use Rattle.aom_machine_state.specs.Stands.{Refines}
use Rattle.aom_semantics.specs.State.{State}
use Rattle.aom_debug_views.specs.CellViews.{counted}
use Rattle.aom_debug_views.specs.Reporting.{gathered}
use Rattle.aom_debug_views.specs.Seeking.{way_among}
use Rattle.aom_debug_views.specs.SeriesMaps.{hangs_in, is_such}
use Rattle.aom_debug_views.proofs.seeking.seek_series.Given as goal

abbrev pub invariant-loop-place : goal.invariant-loop-place
invariant-loop-place l = record {
  few : l.others ≤ l.place;
  count : (s : State) → Refines (record { image = l.checked; parts = l.parts }) s → l.others ≡ counted (is_such l.series s) l.place;
  none : (s : State) → Refines (record { image = l.checked; parts = l.parts }) s →
      way_among l.sought (gathered (λ k. hangs_in l.series s (counted (is_such l.series s) k) k) l.place) ≡ None;
}
