-- The laws of the map of owners and of the order of choice.
use Rattle.std.specs.Prelude.{◌≡◌, ℕ, suc, Bool, false, not, cond, ◌==◌, List, [], ◌∷◌, Option, None, Some}
use Rattle.aom_clients.specs.Clients.{sessions_at}
use Rattle.aom_clients.specs.Lists.{IsOnce}
use Rattle.aom_machine_state.specs.declared.parts.Parts.{Parts}
use Rattle.aom_semantics.specs.Places.{Cell, Object, Place as Owner, named}
use Rattle.aom_machine_state.specs.Serving.{owner_of, waits_in}
use Rattle.aom_semantics.specs.State.{State}
use Rattle.aom_machine_state.specs.Stands.{MachineModel, Refines}
use Rattle.aom_machine.specs.Agreement.{AgreesInAll}
use Rattle.aom_debug_views.specs.Actives.{InOrderOfChoice}
use Rattle.aom_debug_views.specs.Owners.{Owned, owners}

-- how many lines are of the object of that name
abbrev pub lines_of : ℕ → List Owned → ℕ
lines_of n [] = 0
lines_of n (x ∷ xs) = cond (x.object.name == n) (suc (lines_of n xs)) (lines_of n xs)

-- it lives, and does not wait in a queue
abbrev pub has_line : Option Object → Option Owner → Bool
has_line None owner = false
has_line (Some o) owner = not (waits_in owner)

-- no client stands twice among the sessions of a server
abbrev pub SessionsApart : Parts → Type 0
SessionsApart m = (n : ℕ) → IsOnce (sessions_at m.clients n)

-- in each state that a machine stands for each object and message that lives, but for those that wait in a queue, has one line of the map, and there is no other line
abbrev pub ReportedOnce : Type 0
ReportedOnce = (m : MachineModel) (s : State) → Refines m s → AgreesInAll m → SessionsApart m.parts → (n : ℕ) → lines_of n (owners s) ≡ cond (has_line (named s.cells n) (owner_of s.cells n)) 1 0

-- there is just one list of the enlisted objects in the order of choice
abbrev pub OneOrder : Type 0
OneOrder = (cs : List Cell) (names others : List ℕ) → InOrderOfChoice cs names → InOrderOfChoice cs others → names ≡ others
