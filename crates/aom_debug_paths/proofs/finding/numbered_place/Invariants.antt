-- Those so far are counted, and none of them is meant.
use Rattle.std.proofs.Common.{◌≡◌, ◌≤◌, None}
use Rattle.aom_image.specs.Image.{Image}
use Rattle.aom_machine_state.specs.Stands.{Refines}
use Rattle.aom_semantics.specs.State.{State}
use Rattle.aom_debug_views.specs.CellViews.{counted}
use Rattle.aom_debug_paths.specs.Paths.{numbered}
use Rattle.aom_debug_views.specs.SeriesMaps.{is_such}
use Rattle.aom_debug_paths.proofs.finding.numbered_place.Given as goal

abbrev pub invariant-loop-place : goal.invariant-loop-place
invariant-loop-place l = record {
  few : l.others ≤ l.place;
  count : (p : Image) (s : State) → Refines (record { image = p; parts = l.parts }) s → l.others ≡ counted (is_such l.series s) l.place;
  none : (p : Image) (s : State) → Refines (record { image = p; parts = l.parts }) s → numbered (is_such l.series s) l.number l.place ≡ None;
}
