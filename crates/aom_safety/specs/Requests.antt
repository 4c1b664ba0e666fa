-- What is known of the request of each object, from the methods at hand and their abstract states.
use Rattle.std.specs.Prelude.{ℕ, Bool, true, false, not, is_none, is_some, cond, ◌&&◌, ◌||◌, ◌==◌, ◌≡◌, ◌⊎◌, IsTrue, List, [], ◌∷◌, Option, Some, None}
use Rattle.aom_image.specs.Image.{Image}
use Rattle.aom_image.specs.Views.{has, method_role}
use Rattle.aom_image.specs.declared.class.ClassKind.{ClassKind}
use Rattle.aom_image.specs.declared.class.ClassKind.TheVariants.{Active as An_active, Server as A_server}
use Rattle.std.specs.Ordering.{int_eq}
use Rattle.aom_image.specs.declared.class.Provider.{Provider}
use Rattle.aom_image.specs.declared.class.Provider.TheVariants.{Timer as A_timer, Token as A_token}
use Rattle.aom_roles.specs.Roles.{is_cancel}
use Rattle.aom_roles.specs.States.{unlisted, idle, issued, active, cancel_open, cancel_done, server_states, states_of, last_of}
use Rattle.aom_safety.specs.Claims.{Layer, Method, Mark, Dying, Unwinding, Dispatching, Ending}
pub use Rattle.aom_semantics.specs.Requests.{thing_kind}
use Rattle.aom_semantics.specs.Requests.{in_phase, is_cancelling, is_idle, is_unanswered, pending}
use Rattle.aom_semantics.specs.Places.{Object, Cell, Phase, Idle, Issued, Active, Cancelling, Aborted, Request, named, requested}
use Rattle.aom_semantics.specs.State.{Frame, Receiver, Static, AtRoot, Inside}

-- the state that a request is in, as a set
abbrev pub phase_state : Phase → ℕ
phase_state q = elim q [ Idle ↦ idle | Issued ↦ issued | Active ↦ active | Cancelling ↦ cancel_open | Aborted ↦ cancel_done ]

abbrev pub state_of : Option Request → ℕ
state_of None = unlisted
state_of (Some r) = phase_state r.phase

-- what is known of the request of an object: the states in which it may be, and whether it is being cancelled
pub record Known : Type 0 where
  pub states : ℕ
  pub cancelled : Bool

-- while it is not
abbrev pub resting_in : ℕ → Known
resting_in states = record { states = states; cancelled = false }

-- a timer runs for that request
abbrev pub ticks : Provider → Request → Bool
ticks A_timer r = not (is_idle r.phase) && int_eq r.status pending
ticks _ r = false

-- a pending request of a timer's has a timer, and no other has one
abbrev pub is_timed : Provider → Option Request → Bool
is_timed provider None = true
is_timed provider (Some r) = cond (ticks provider r) (is_some r.timer) (is_none r.timer)

-- that request waits for a token
abbrev pub needs_token : Provider → Request → Bool
needs_token A_token r = not (is_idle r.phase) && int_eq r.status pending
needs_token _ r = false

-- a pending request of an object that hands tokens has one, and no other has
abbrev pub token_matches_request : Provider → Option Request → Bool
token_matches_request provider None = true
token_matches_request provider (Some r) = cond (needs_token provider r) (is_some r.token) (is_none r.token)

-- nothing that a server has waits for a token
abbrev pub is_free : Option Request → Bool
is_free None = true
is_free (Some r) = is_none r.token

-- an object that may be enlisted is as it is known to be, what is aborted has its code, timers run for what is pending, and so do tokens; an object of another class is not enlisted
abbrev pub ConformsTo : Option ClassKind → Known → Option Request → Type 0
ConformsTo (Some (An_active provider)) k r = IsTrue (has k.states (state_of r)) × (in_phase is_cancelling r ≡ k.cancelled) × (is_unanswered r ≡ false) × (is_timed provider r ≡ true) × (token_matches_request provider r ≡ true)
ConformsTo (Some (A_server most session)) k r = IsTrue (has k.states (state_of r)) × IsTrue (has server_states (state_of r)) × (is_free r ≡ true)
ConformsTo _ k r = r ≡ None

-- a method with that home works on the cell of that name
abbrev pub works_at : ℕ → Receiver → Bool
works_at n Static = false
works_at n AtRoot = false
works_at n (Inside x from) = x.name == n

-- by a method that works on the object, where this is known below it
abbrev pub known_at : Image → Frame → ℕ → Known → Known
known_at p fr states below = record { states = states; cancelled = is_cancel (method_role p fr.method) || below.cancelled }

module _ (p : Image) (o : Object) where
  -- the states in which the object may rest
  abbrev pub rests_in : ℕ
  rests_in = states_of (thing_kind p o.thing)

  -- it is in one of the states of the first layer that works on it, and being cancelled while a method that cancels does
  abbrev pub states_claim : List Layer → Known
  states_claim [] = resting_in rests_in
  states_claim (Method fr sh ∷ ls) = cond (works_at o.name fr.receiver) (known_at p fr sh.states (states_claim ls)) (states_claim ls)
  states_claim (Mark gv ∷ ls) = states_claim ls
  states_claim (Dying x ∷ ls) = cond (x.name == o.name) (resting_in (last_of (thing_kind p o.thing))) (states_claim ls)
  states_claim (Ending x left ∷ ls) = states_claim ls
  states_claim (Unwinding code es ∷ ls) = states_claim ls
  states_claim (Dispatching d owned_chain ∷ ls) = states_claim ls

-- so it is for each object
abbrev pub AllConformTo : Image → List Cell → List Layer → Type 0
AllConformTo p cs ls = (o : Object) → named cs o.name ≡ Some o → ConformsTo (thing_kind p o.thing) (states_claim p o ls) (requested cs o.name)

-- no layer works on the cell of that name, or is its going
abbrev pub Unworked : ℕ → List Layer → Type 0
Unworked n [] = Unit {0}
Unworked n (Method fr sh ∷ ls) = (works_at n fr.receiver ≡ false) × Unworked n ls
Unworked n (Mark gv ∷ ls) = Unworked n ls
Unworked n (Dying x ∷ ls) = ((x.name == n) ≡ false) × Unworked n ls
Unworked n (Ending x left ∷ ls) = Unworked n ls
Unworked n (Unwinding code es ∷ ls) = Unworked n ls
Unworked n (Dispatching d owned_chain ∷ ls) = Unworked n ls

-- right below a method that works on the object stands one that works on it too, and rests with it under a trap, or none works on it but its going
abbrev pub Joins : Image → Object → List Layer → Type 0
Joins p o (Method fr sh ∷ ls) = (works_at o.name fr.receiver ≡ true) ⊎ Unworked o.name (Method fr sh ∷ ls)
Joins p o (Mark gv ∷ Method fr sh ∷ ls) = ((works_at o.name fr.receiver ≡ true) × IsTrue (has sh.states (rests_in p o))) ⊎ Unworked o.name (Method fr sh ∷ ls)
Joins p o (Dying x ∷ ls) = Unworked o.name ls
Joins p o ls = Unworked o.name ls
