-- What is left between dispatches: timers that run, events to come, natives to poll. Each turn that dispatches nothing takes of it.
use Rattle.std.proofs.lemmas.Bool.Decides.{nat_tests}
use Rattle.std.proofs.Common.{◌≡◌, ◌<◌, ◌≤◌, ◌+◌, ◌-◌, ◌*◌, ℕ, zero, suc, ℤ, Bool, true, false, List}
use Rattle.std.proofs.Common.{[], ◌∷◌, Option, Some, None, ap, arith, cond, length, refl, ◌∙◌}
use Rattle.std.specs.Prelude.{is_some, nat_le, not, ◌||◌}
use Rattle.aom_determinism.proofs.ActiveObjectsLemmas.{running}
use Rattle.aom_active_objects.specs.Agrees.{timer_in}
use Rattle.aom_image.specs.Image.{Image}
use Rattle.aom_clients.specs.declared.client.Client.{Client}
use Rattle.aom_semantics.specs.Clients.{commanded, leaving}
use Rattle.aom_semantics.specs.Servers.{withdrawn}
use Rattle.aom_semantics.specs.Requests.{completed_with, on_request}
use Rattle.aom_semantics.specs.Natives.{all_detached, is_served_by, terminated_request}
use Rattle.aom_semantics.specs.Places.{Cell, Object, Request, Service, NoDuplicates, requested, set_request, set_service}
use Rattle.aom_semantics.specs.State.{State}
use Rattle.aom_semantics.specs.World.{Environment, Timed, due_of, event_at, first_due, first_living, next_event, next_time, time_of, with_request}
use Rattle.aom_transcript.specs.declared.event.ClientCommand.{ClientCommand}
use Rattle.aom_transcript.specs.declared.event.TimedEvent.{TimedEvent}
use Rattle.aom_determinism.specs.Endings.{one_where}
use Rattle.aom_determinism.proofs.Spending.{one_at_most}

-- ---- the timers that run

abbrev timed : Option Request → ℕ
timed r = one_where (is_some (timer_in r))

abbrev pub timers_in : List Cell → ℕ
timers_in [] = 0
timers_in (c ∷ cs) = timed c.request + timers_in cs

without_more : (cs : List Cell) (n : ℕ) (r : Option Request) → timer_in r ≡ None → timers_in (set_request n r cs) ≤ timers_in cs
without_more [] n r none = omega arith
without_more (c ∷ cs) n r none = grind (arith, nat_tests, without_more cs n r none)

one_fewer : (cs : List Cell) (n : ℕ) (r : Option Request) → timer_in r ≡ None → is_some (timer_in (requested cs n)) ≡ true →
    timers_in (set_request n r cs) < timers_in cs
one_fewer [] n r none runs = cc
one_fewer (c ∷ cs) n r none runs = grind (arith, nat_tests, without_more cs n r none, one_fewer cs n r none)

completed_none : (code : ℤ) (r : Option Request) → timer_in (on_request (completed_with code) r) ≡ None
completed_none code x = grind arith

pub completed_fewer : (code : ℤ) (cs : List Cell) → NoDuplicates cs → (x : Timed) → first_due cs ≡ Some x →
    timers_in (with_request (completed_with code) x.object cs) < timers_in cs
completed_fewer code cs no_duplicates x first = grind (arith, nat_tests, running cs no_duplicates x first, one_fewer cs x.object.name, completed_none code)

pub completed_no_more : (code : ℤ) (cs : List Cell) (o : Object) → timers_in (with_request (completed_with code) o cs) ≤ timers_in cs
completed_no_more code cs o = without_more cs o.name (on_request (completed_with code) (requested cs o.name)) (completed_none code (requested cs o.name))

-- a kill starts none
ended_timed : (served : Bool) (r : Option Request) → timed (cond served (terminated_request r) r) ≤ timed r
ended_timed x r = grind (arith, nat_tests, completed_none)

pub detached_no_more : (p : Image) (n : ℕ) (cs : List Cell) → timers_in (all_detached p n cs) ≤ timers_in cs
detached_no_more p n [] = omega arith
detached_no_more p n (c ∷ cs) = omega (arith, ended_timed (is_served_by p n c.object.thing) c.request, detached_no_more p n cs)

-- nor does a client
served_timers : (cs : List Cell) (n : ℕ) (v : Service) → timers_in (set_service n v cs) ≡ timers_in cs
served_timers [] n v = refl
served_timers (c ∷ cs) n v = ap (λ k. timed c.request + k) (served_timers cs n v)

withdrawn_no_more : (c : ℕ) (cs : List Cell) → timers_in (withdrawn c cs) ≤ timers_in cs
withdrawn_no_more c [] = omega arith
withdrawn_no_more c (x ∷ xs) = grind (arith, nat_tests, withdrawn_no_more c xs)

module _ (p : Image) (client : ℕ) (s : State) where
  abbrev StartsNone : State → Type 0
  StartsNone u = timers_in u.cells ≤ timers_in s.cells

  leaving_no_more : (to : Option Client) → StartsNone (leaving p client s to)
  leaving_no_more x = grind (arith, nat_tests, served_timers, withdrawn_no_more client s.cells)

  pub commanded_no_more : (command : ClientCommand) (name : ℕ) → StartsNone (commanded p client s command name)
  commanded_no_more x name = grind (arith, nat_tests, served_timers, leaving_no_more)

-- ---- what has come by a time

abbrev pub reached : Option ℕ → ℕ → Bool
reached None now = false
reached (Some time) now = nat_le time now

-- a timer is due, or an event has come
abbrev pub is_late : Environment → State → Bool
is_late outside s = reached (due_of (first_due s.cells)) s.rest.clock || reached (time_of (next_event outside s)) s.rest.clock

pub early_both : (outside : Environment) (s : State) →
    reached (due_of (first_due s.cells)) s.rest.clock ≡ false → reached (time_of (next_event outside s)) s.rest.clock ≡ false → is_late outside s ≡ false
early_both outside s timer event = ap (λ b. b || reached (time_of (next_event outside s)) s.rest.clock) timer ∙ event

-- the nearer of two times has come by then
pub passed_late : (outside : Environment) (s u : State) (time : ℕ) →
    next_time outside s ≡ Some time → u.cells ≡ s.cells → u.rest.clock ≡ time → u.rest.delivered ≡ s.rest.delivered → is_late outside u ≡ true
passed_late outside s u time next cells clock delivered = grind (arith, nat_tests)

-- ---- events and natives

pub event_there : (es : List TimedEvent) (k : ℕ) (e : TimedEvent) → event_at es k ≡ Some e → k < length es
event_there [] k e is = cc
event_there (x ∷ es) zero e is = omega arith
event_there (x ∷ es) (suc k) e is = omega (arith, event_there es k e is)

pub living_within : (killed : List ℕ) (many n k : ℕ) → first_living killed many n ≡ Some k → (n ≤ k) × (k < n + many)
living_within killed zero n k e = cc
living_within killed (suc many) n k e = grind (arith, nat_tests, living_within killed many (suc n) k)

-- ---- how many turns there may be before time has passed for all, and before it passes

abbrev pub events_left : Environment → State → ℕ
events_left outside s = length outside.events - s.rest.delivered

abbrev pub natives_left : Environment → State → ℕ
natives_left outside s = outside.natives - s.rest.polled

abbrev pub left : Environment → State → ℕ
left outside s = 2 * (timers_in s.cells + events_left outside s) + one_where (not (is_late outside s))

-- fewer timers or events
pub fewer_left : (outside : Environment) (s u : State) → timers_in u.cells + events_left outside u < timers_in s.cells + events_left outside s →
    left outside u < left outside s
fewer_left outside s u fewer = omega (arith, fewer, one_at_most (not (is_late outside u)))

-- or as many, and time has come where it had not
pub later_left : (outside : Environment) (s u : State) → timers_in u.cells + events_left outside u ≤ timers_in s.cells + events_left outside s →
    is_late outside s ≡ false → is_late outside u ≡ true → left outside u < left outside s
later_left outside s u same early late = omega (arith, same, ap (λ b. one_where (not b)) early, ap (λ b. one_where (not b)) late)

pub no_more_left : (outside : Environment) (s u : State) →
    timers_in u.cells + events_left outside u ≤ timers_in s.cells + events_left outside s → is_late outside s ≡ false → left outside u ≤ left outside s
no_more_left outside s u same early = omega (arith, same, ap (λ b. one_where (not b)) early, one_at_most (not (is_late outside u)))
