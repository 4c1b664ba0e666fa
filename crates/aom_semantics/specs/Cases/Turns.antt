-- What a turn does, by what signals, what is due and what waits; and where it is stuck.
use Rattle.std.specs.Prelude.{ℕ, ℤ, pos, negsuc, List, [], ◌∷◌, ◌≡◌, Some, None}
use Rattle.aom_semantics.specs.Requests.{pending}
use Rattle.aom_semantics.specs.Places.{Aborted, Active, Cancelling, Cell, Elsewhere, Idle, Issued, Object, Phase, Root, Timer}
use Rattle.aom_semantics.specs.State.{IsStuck, OwnedObject, State, Stray}
use Rattle.aom_semantics.specs.World.{Completes, Cuts, Environment, Passes, Picks, Strays, Turning, Waits, nothing_observed, ready_count, refusing, signal_count, turn, turning}
use Rattle.aom_semantics.specs.Cases.Building.{a_cell, state_of, waiter}
use Rattle.aom_semantics.specs.Cases.Moves.{an_image}

-- an object that is enlisted, with its place among those enlisted, its priority, its request and that request's status
abbrev pub listed : (name order : ℕ) (priority : ℤ) → Phase → (status : ℤ) → Cell
listed name order priority phase status =
    record (a_cell name waiter (Elsewhere Root)) { request = Some (record { order = order; priority = priority; phase = phase; status = status; timer = None; token = None }) }

-- one that waits for a timer
abbrev pub timed : (name order : ℕ) → Timer → Cell
timed name order timer =
    record (a_cell name waiter (Elsewhere Root)) { request = Some (record { order = order; priority = pos 0; phase = Active; status = pending; timer = Some timer; token = None }) }

abbrev pub named_so : ℕ → Object
named_so name = record { name = name; thing = waiter }

abbrev pub owned_object_of : ℕ → OwnedObject
owned_object_of name = record { object = named_so name; place = Elsewhere Root }

-- at time 0, with nothing at hand and no dispatch so far
abbrev pub between : List Cell → State
between cells = state_of [] cells []

-- a run that may have so many dispatches
abbrev pub within : ℕ → Environment
within limit = refusing [] limit

pub record Turn_case : Type 0 where
  pub cells : List Cell
  pub limit : ℕ
  pub comes : Turning

abbrev pub comes_to : Turning → List Cell → Turn_case
comes_to comes cells = record { cells = cells; limit = 9; comes = comes }

abbrev pub AllCome : List Turn_case → Type 0
AllCome [] = Unit {0}
AllCome (c ∷ cs) = (turning (within c.limit) nothing_observed (between c.cells) ≡ c.comes) × AllCome cs

-- a completed request signals, unless its signal is taken
abbrev pub signal_cases : List Turn_case
signal_cases =
    comes_to Waits []
    ∷ comes_to Waits (a_cell 1 waiter (Elsewhere Root) ∷ [])
    ∷ comes_to Waits (listed 1 0 (pos 0) Idle (negsuc 2) ∷ [])
    ∷ comes_to Waits (listed 1 0 (pos 0) Active pending ∷ [])
    ∷ comes_to Waits (listed 1 0 (pos 0) Issued pending ∷ [])
    ∷ comes_to (Picks (owned_object_of 1)) (listed 1 0 (pos 0) Active (pos 0) ∷ [])
    ∷ comes_to Strays (listed 1 0 (pos 0) Issued (pos 0) ∷ [])
    ∷ comes_to Strays (listed 1 0 (pos 0) Cancelling (pos 0) ∷ [])
    ∷ []

-- cells with so many signals, of whose objects and servers so many are ready
pub record Count_case : Type 0 where
  pub signals : ℕ
  pub ready : ℕ
  pub cells : List Cell

abbrev pub count : (signals ready : ℕ) → List Cell → Count_case
count signals ready cells = record { signals = signals; ready = ready; cells = cells }

abbrev pub AllCount : List Count_case → Type 0
AllCount [] = Unit {0}
AllCount (c ∷ cs) = (signal_count c.cells ≡ c.signals) × (ready_count c.cells ≡ c.ready) × AllCount cs

-- each completed request has one signal until it is taken, and its object is ready where it waits for it
abbrev pub count_cases : List Count_case
count_cases =
    count 0 0 (a_cell 1 waiter (Elsewhere Root) ∷ [])
    ∷ count 0 0 (listed 1 0 (pos 0) Idle (pos 0) ∷ listed 2 1 (pos 0) Active pending ∷ listed 3 2 (pos 0) Issued pending ∷ [])
    ∷ count 1 1 (listed 1 0 (pos 0) Active (pos 0) ∷ [])
    ∷ count 1 0 (listed 1 0 (pos 0) Issued (pos 0) ∷ [])
    ∷ count 2 0 (listed 1 0 (pos 0) Cancelling (pos 0) ∷ listed 2 1 (pos 0) Aborted (negsuc 2) ∷ [])
    ∷ count 3 2 (listed 1 0 (pos 0) Active (pos 0) ∷ listed 2 1 (pos 0) Issued (pos 0) ∷ listed 3 2 (pos 0) Idle (pos 0) ∷ listed 4 3 (pos 0) Active (negsuc 2) ∷ [])
    ∷ []

-- of the ready objects the one of the highest priority is picked, and among equals the one enlisted first
abbrev pub pick_cases : List Turn_case
pick_cases =
    comes_to (Picks (owned_object_of 2)) (listed 1 0 (pos 0) Active (pos 0) ∷ listed 2 1 (pos 5) Active (pos 0) ∷ [])
    ∷ comes_to (Picks (owned_object_of 1)) (listed 1 0 (pos 0) Active (pos 0) ∷ listed 2 1 (negsuc 0) Active (pos 0) ∷ [])
    ∷ comes_to (Picks (owned_object_of 1)) (listed 1 0 (pos 0) Active (pos 0) ∷ listed 2 1 (pos 0) Active (pos 0) ∷ [])
    ∷ comes_to (Picks (owned_object_of 1)) (listed 2 1 (pos 0) Active (pos 0) ∷ listed 1 0 (pos 0) Active (pos 0) ∷ [])
    ∷ comes_to (Picks (owned_object_of 1)) (listed 1 0 (pos 0) Active (pos 0) ∷ listed 2 1 (pos 5) Active pending ∷ [])
    ∷ []

-- timers that are due come before signals, the earliest first, and among equals the one begun first; the limit comes before all
abbrev pub timer_cases : List Turn_case
timer_cases =
    comes_to (Passes 5) (timed 1 0 (record { due = 5; order = 0 }) ∷ [])
    ∷ comes_to (Passes 4) (timed 1 0 (record { due = 5; order = 0 }) ∷ timed 2 1 (record { due = 4; order = 1 }) ∷ [])
    ∷ comes_to (Completes (named_so 1)) (timed 1 0 (record { due = 0; order = 0 }) ∷ listed 2 1 (pos 0) Active (pos 0) ∷ [])
    ∷ comes_to (Picks (owned_object_of 2)) (timed 1 0 (record { due = 1; order = 0 }) ∷ listed 2 1 (pos 0) Active (pos 0) ∷ [])
    ∷ comes_to (Completes (named_so 2)) (timed 1 0 (record { due = 0; order = 1 }) ∷ timed 2 1 (record { due = 0; order = 0 }) ∷ [])
    ∷ record (comes_to Cuts (timed 1 0 (record { due = 0; order = 0 }) ∷ listed 2 1 (pos 0) Active (pos 0) ∷ [])) { limit = 0 }
    ∷ []

-- each turn comes out so, and a signal without a ready object makes it stuck
pub record TurnNeedsFail : Type 0 where
  pub signals : AllCome signal_cases
  pub counts : AllCount count_cases
  pub picks : AllCome pick_cases
  pub timers : AllCome timer_cases
  pub stray : turn an_image (within 9) nothing_observed (between (listed 1 0 (pos 0) Issued (pos 0) ∷ [])) ≡ IsStuck Stray
