-- What natives do between dispatches: one is killed, or one that is polled completes a request.
use Rattle.std.specs.Prelude.{◌≡◌, ℕ, ℤ, Bool, false, length, Option, Some, None}
use Rattle.aom_image.specs.Image.{Image}
use Rattle.aom_image.specs.declared.method.Thing.TheVariants.{Object as An_object_of}
use Rattle.aom_active_objects.specs.Agrees.{Active, RefinesRequests as Asks_for, queued}
use Rattle.aom_active_objects.specs.Meanings.{Makes}
use Rattle.aom_cells.specs.Sessions.{is_open}
use Rattle.aom_semantics.specs.Requests.{completed_with, recorded}
use Rattle.aom_semantics.specs.Natives.{all_detached, is_served_by}
use Rattle.aom_semantics.specs.Places.{in_session, requested}
use Rattle.aom_semantics.specs.State.{State}
use Rattle.aom_machine_state.specs.declared.parts.Parts.{Parts}
use Rattle.aom_machine_state.specs.Stands.{Refines}

-- ---- one is polled

-- the request of the cell of that number is completed with that code, or nothing is
abbrev pub Finishes : Option (ℕ × ℤ) → Active → Active → Type 0
Finishes None old new = new ≡ old
Finishes (Some x) old new = Makes old new x.0 (completed_with (recorded x.1))

-- ---- one is killed

-- the native serves the objects of that class
abbrev pub serves_class : Image → (native : ℕ) → Option ℕ → Bool
serves_class p native None = false
serves_class p native (Some class) = is_served_by p native (An_object_of class)

-- requests and sessions alone may be others, in the same places
pub record KeepsOthers (old new : Parts) : Type 0 where
  pub numbers : new.active.table.limit ≡ old.active.table.limit
  pub places : length new.sessions.flags ≡ length old.sessions.flags
  pub killed : new.sessions.killed ≡ old.sessions.killed
  pub rest : new ≡ record old { active = new.active; sessions = new.sessions }

-- the requests and the sessions are those that the cells have once the native is killed
pub record Detaches (p : Image) (native : ℕ) (old new : Parts) : Type 0 where
  pub requests : (s : State) → Refines (record { image = p; parts = old }) s → Asks_for new.active (requested (all_detached p native s.cells)) (queued p (all_detached p native s.cells))
  pub sessions : (s : State) → Refines (record { image = p; parts = old }) s → (n : ℕ) → is_open new.sessions n ≡ in_session (all_detached p native s.cells) n
  pub others : KeepsOthers old new
