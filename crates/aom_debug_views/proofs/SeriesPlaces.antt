-- The machine has as many places of a series as each state that it stands for.
use Rattle.std.proofs.Common.{◌≡◌}
use Rattle.aom_image.specs.Image.{Image}
use Rattle.aom_semantics.specs.State.{State}
use Rattle.aom_machine_state.specs.Stands.{Refines}
use Rattle.aom_machine_state.specs.declared.parts.Parts.{Parts}
use Rattle.aom_debug_views.specs.SeriesMaps.{length_of, places_in}
use Rattle.aom_debug_views.specs.declared.series.Series.{Series}
use Rattle.aom_debug_views.specs.declared.series.Series.TheVariants.{Entries, Frames, Goings}
use Rattle.aom_debug_views.proofs.Showing.{as_many_items}
use Rattle.aom_debug_views.proofs.Tasks.{as_many_tasks}

pub as_many : (a : Series) (p : Image) (m : Parts) (s : State) → Refines (record { image = p; parts = m }) s → places_in a m ≡ length_of a s
as_many Frames p m s st = as_many_tasks p m s st
as_many Entries p m s st = as_many_items p m s st
as_many Goings p m s st = as_many_tasks p m s st
