-- What the map of owners numbers from the bottom: methods, cleanup entries and destructions.
use Rattle.std.specs.Prelude.{ℕ, Bool, List, length}
use Rattle.aom_semantics.specs.Owned.{over}
use Rattle.aom_semantics.specs.Places.{Entry, Going}
use Rattle.aom_semantics.specs.State.{State}
use Rattle.aom_machine_state.specs.declared.parts.Parts.{Parts}
use Rattle.aom_debug_views.specs.CellViews.{counted}
use Rattle.aom_debug_views.specs.Owners.{In_entry, In_going, Owned, frame_registers, grown, is_entry, is_frame, is_going}
use Rattle.aom_debug_views.specs.Reporting.{gathered}
use Rattle.aom_debug_views.specs.declared.series.Series.{Series}
use Rattle.aom_debug_views.specs.declared.series.Series.TheVariants.{Frames, Entries, Goings}

-- whether one stands at a place of the state
abbrev pub is_such : Series → State → ℕ → Bool
is_such Frames s = λ k. is_frame (over s.tasks k)
is_such Entries s = λ k. is_entry (over s.items k)
is_such Goings s = λ k. is_going (over s.tasks k)

-- how many places there are
abbrev pub length_of : Series → State → ℕ
length_of Frames s = length s.tasks
length_of Entries s = length s.items
length_of Goings s = length s.tasks

abbrev pub places_in : Series → Parts → ℕ
places_in Frames m = length m.stack.tasks
places_in Entries m = length m.entries.items
places_in Goings m = length m.stack.tasks

-- what hangs from a place, over so many others of the series
abbrev pub hangs_in : Series → State → (others place : ℕ) → List Owned
hangs_in Frames s others depth = frame_registers s.cells depth others 16
hangs_in Entries s others height = grown s.cells (In_entry others) (Entry height)
hangs_in Goings s others depth = grown s.cells (In_going others) (Going depth)

-- from all its places
abbrev pub series_map : Series → State → List Owned
series_map a s = gathered (λ k. hangs_in a s (counted (is_such a s) k) k) (length_of a s)
