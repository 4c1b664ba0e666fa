-- What a move tells, by the call that it makes: how instructions on requests and sessions bear on what is outstanding.
use Rattle.std.proofs.lemmas.Bool.Decides.{nat_tests}
use Rattle.std.proofs.Common.{arith, Bool, List, None, Option, Some, ap, cond, false, refl, sym, true, ℕ, ℤ, ◌&&◌, ◌==◌, ◌∙◌, ◌≡◌}
use Rattle.std.proofs.lemmas.Bool.{not-true, and_parts, and_right, eq-eqb, eqb-true, true≢false}
use Rattle.std.specs.Ordering.{int_eq}
use Rattle.std.specs.Prelude.{not, ◌||◌}
use Rattle.aom_image.specs.Image.{Image}
use Rattle.aom_image.specs.Views.{method_role}
use Rattle.aom_roles.specs.Roles.{is_cancel}
use Rattle.aom_determinism.proofs.Cells.{Unchanged, meets_asked, meets_opened, owes_asked, owes_opened, served_none}
use Rattle.aom_determinism.proofs.Cells.{served_so, unchanged_asked, unchanged_itself, unchanged_opened}
use Rattle.aom_determinism.proofs.Requests.{aborted_owed, cancelled_owed, completed_owed, idle_owed, issued_owed, started_owed}
use Rattle.aom_determinism.specs.Owed.{Finds, FindsWell, SessionsHold, is_for, meets, meets_after, owes, owes_after, serves, serves_object, takes_on}
use Rattle.aom_semantics.specs.Requests.{Asking, aborted, ended_cells, receiver_kind, in_phase, is_idle, issued_of}
use Rattle.aom_semantics.specs.Requests.{on_request, own_request, pending, request_updated, status_of, thing_kind}
use Rattle.aom_semantics.specs.Natives.{has_died, is_dead, is_owed, native_of, opens, own_session, session_updated, started}
use Rattle.aom_semantics.specs.Places.{Cell, Object, Request, in_session, named, requested, set_request, set_session}
use Rattle.aom_semantics.specs.State.{Frame, Receiver, Inside, State, Task}
use Rattle.aom_semantics.specs.NativeCall.{An_open, A_start, An_ask, A_cancel, A_close, Asks, Cancels, Closes}
use Rattle.aom_semantics.specs.NativeCall.{Opens, Starts, NativeCall, wanted_at, wanted_by, wanted_if}
use Rattle.aom_semantics.specs.Words.{read}

-- the cells after a call with that answer
pub record Reported (p : Image) (answer : ℤ) (s : State) (w : Option NativeCall) (cs : List Cell) : Type 0 where
  pub finds : FindsWell p s w
  pub owes : (k m : ℕ) → owes p cs k m ≡ owes_after w answer k m (owes p s.cells k m)
  pub meets : (k m : ℕ) → meets p cs k m ≡ meets_after w answer k m (meets p s.cells k m)

-- ---- one name more, or one less, of which something is told

pub put_on : (f : ℕ → Bool) (name m : ℕ) (x t v : Bool) → f name ≡ (x && false) → v ≡ (x && t) → cond (name == m) v (f m) ≡ ((t && (x && (name == m))) || f m)
put_on f name m x t v before now = grind (arith, nat_tests, eqb-true name m)

pub taken_off : (f : ℕ → Bool) (name m : ℕ) (x y v : Bool) → f name ≡ (x && y) → v ≡ false → cond (name == m) v (f m) ≡ (not (x && (name == m)) && f m)
taken_off f name m x y v before now = grind (arith, nat_tests, eqb-true name m)

-- a call is for one cell
pub for_one : (n x k m : ℕ) → is_for n x k m ≡ true → (n ≡ k) × (x ≡ m)
for_one n x k m e = let both = and_parts (n == k) (x == m) e in (eqb-true n k both.0, eqb-true x m both.1)

-- ---- sessions hold after a call

module _ (p : Image) (answer : ℤ) (s : State) (holds : SessionsHold p s) (w : Option NativeCall) where
  pub sessions_after : (u : State) → Reported p answer s w u.cells → u.killed ≡ s.killed → SessionsHold p u
  sessions_after u reported killed = search (arith, nat_tests)

-- ---- other changes before and after it

-- sessions hold where nothing changes
pub sessions_along : (p : Image) (s u : State) → Unchanged p s.cells u.cells → u.killed ≡ s.killed → SessionsHold p s → SessionsHold p u
sessions_along p s u same killed holds = search (arith, nat_tests)

pub reported_along : (p : Image) (answer : ℤ) (s : State) (w : Option NativeCall) (cs cs' : List Cell) → Unchanged p cs cs' → Reported p answer s w cs → Reported p answer s w cs'
reported_along p answer s w cs cs' same reported = record { finds = reported.finds; owes = λ k m. same.owes k m ∙ reported.owes k m; meets = λ k m. same.meets k m ∙ reported.meets k m }

pub reported_before : (p : Image) (answer : ℤ) (s u : State) → Unchanged p s.cells u.cells → ((k m : ℕ) → serves p u.cells k m ≡ serves p s.cells k m) →
    u.killed ≡ s.killed → (w : Option NativeCall) (cs : List Cell) → Reported p answer u w cs → Reported p answer s w cs
reported_before p answer s u same serving killed w cs reported = record {
  finds = grind (arith, nat_tests, owes);
  owes = λ k m. reported.owes k m ∙ ap (λ b. owes_after w answer k m b) (same.owes k m);
  meets = λ k m. reported.meets k m ∙ ap (λ b. meets_after w answer k m b) (same.meets k m);
}

-- ---- what instructions tell

-- what a method works on lives
abbrev pub IsAlive : List Cell → Receiver → Type 0
IsAlive cs (Inside o from) = named cs o.name ≡ Some o
IsAlive cs _ = Unit {0}

module _ (p : Image) (answer : ℤ) (s : State) where
  pub reported_none : (cs : List Cell) → Unchanged p s.cells cs → Reported p answer s None cs
  reported_none cs same = record { finds = tt; owes = same.owes; meets = same.meets }

  -- what a request is made with, at a native that is killed or not, in a session or not
  abbrev pub asking : (clock order : ℕ) (dead session : Bool) → Asking
  asking clock order dead session = record { clock = clock; order = order; started = started dead session answer }

  -- a request that is owed as before
  pub asked_same : (h : Receiver) (r : Option Request) → is_owed r ≡ is_owed (own_request s.cells h) → Unchanged p s.cells (request_updated s.cells h r)
  asked_same x r e = grind (arith, nat_tests, unchanged_itself p s.cells, unchanged_asked p s.cells)

  -- nothing is told of a request that is owed as before, nor of a session that is as it was
  asked_alike : (o : Object) (r : Option Request) → is_owed r ≡ is_owed (requested s.cells o.name) → Reported p answer s None (set_request o.name r s.cells)
  asked_alike o r e = reported_none _ (unchanged_asked p s.cells o r (λ k. ap (λ b. serves p s.cells k o.name && b) e))

  opened_alike : (o : Object) (b : Bool) → b ≡ in_session s.cells o.name → Reported p answer s None (set_session o.name b s.cells)
  opened_alike o b e = reported_none _ (unchanged_opened p s.cells o b (λ k. ap (λ b. serves p s.cells k o.name && b) e))

  -- an object that no native serves owes nothing, whatever its request and its session
  module _ (o : Object) (lives : named s.cells o.name ≡ Some o) (native : native_of (thing_kind p o.thing) ≡ None) where
    unserved : (k : ℕ) → serves p s.cells k o.name ≡ false
    unserved k = ap (λ x. serves_object p k x) lives ∙ served_none p k o.thing native

    pub still : (k : ℕ) (b c : Bool) → (serves p s.cells k o.name && b) ≡ (serves p s.cells k o.name && c)
    still k b c = ap (λ x. x && b) (unserved k) ∙ sym (ap (λ x. x && c) (unserved k))

    asked_elsewhere : (r : Option Request) → Reported p answer s None (set_request o.name r s.cells)
    asked_elsewhere r = reported_none _ (unchanged_asked p s.cells o r (λ k. still k (is_owed r) (is_owed (requested s.cells o.name))))

    opened_elsewhere : (b : Bool) → Reported p answer s None (set_session o.name b s.cells)
    opened_elsewhere b = reported_none _ (unchanged_opened p s.cells o b (λ k. still k b (in_session s.cells o.name)))

  -- one that native n serves
  module _ (holds : SessionsHold p s) (o : Object) (lives : named s.cells o.name ≡ Some o) (n : ℕ) (native : native_of (thing_kind p o.thing) ≡ Some n) where
    pub served : (k : ℕ) → serves p s.cells k o.name ≡ (n == k)
    served k = ap (λ x. serves_object p k x) lives ∙ served_so p k n o.thing native

    here : serves p s.cells n o.name ≡ true
    here = served n ∙ eq-eqb n n refl

    pub at_it : (k : ℕ) (b c : Bool) → b ≡ c → (serves p s.cells k o.name && b) ≡ ((n == k) && c)
    at_it k b c e = ap (λ x. x && b) (served k) ∙ ap (λ x. (n == k) && x) e

    pub found : (session owed : Bool) → is_dead s.killed n ≡ false → in_session s.cells o.name ≡ session → is_owed (requested s.cells o.name) ≡ owed →
        Finds p s n o.name session owed
    found session owed alive met owing = record {
      lives = alive;
      serves = here;
      meets = ap (λ x. x && in_session s.cells o.name) here ∙ met;
      owes = ap (λ x. x && is_owed (requested s.cells o.name)) here ∙ owing;
    }

    -- an open session tells that its native lives
    pub alive_in : in_session s.cells o.name ≡ true → is_dead s.killed n ≡ false
    alive_in met = holds.lives n o.name (ap (λ x. x && in_session s.cells o.name) here ∙ met)

    open_for : is_owed (requested s.cells o.name) ≡ true → in_session s.cells o.name ≡ true
    open_for owed = grind (arith, nat_tests, here)

    connects : (d x : Bool) → is_dead s.killed n ≡ d → in_session s.cells o.name ≡ x →
        Reported p answer s (wanted_if (not (d || x)) (Opens n o.name)) (set_session o.name (opens d x answer) s.cells)
    connects true true dead met = absurd (true≢false (sym dead ∙ alive_in met))
    connects true false dead met = opened_alike o false (sym met)
    connects false true dead met = opened_alike o true (sym met)
    connects false false dead met = record {
      finds = found false false dead met (grind (arith, nat_tests, open_for));
      owes = owes_opened p s.cells o (takes_on answer);
      meets = grind (arith, nat_tests, meets_opened, put_on, meets, at_it);
    }

    module _ (clock order : ℕ) (a : ℤ) (f w : ℤ) (idle : in_phase is_idle (requested s.cells o.name) ≡ true) where
      abbrev then : Bool → Bool → Option Request
      then d x = on_request (issued_of (thing_kind p o.thing) (asking clock order d x) a) (requested s.cells o.name)

      owed_then : (d x : Bool) → is_owed (then d x) ≡ ((not d && x) && takes_on answer)
      owed_then d x = issued_owed (thing_kind p o.thing) n (asking clock order d x) a (requested s.cells o.name) native idle ∙ started_owed d x answer

      not_begun : (d x : Bool) → (not d && x) ≡ false → Reported p answer s None (set_request o.name (then d x) s.cells)
      not_begun d x e = grind (arith, nat_tests, asked_alike o, owed_then d x, idle_owed)

      issues : (d x : Bool) → is_dead s.killed n ≡ d → in_session s.cells o.name ≡ x →
          Reported p answer s (wanted_if (not d && x) (Starts n o.name f w)) (set_request o.name (then d x) s.cells)
      issues true x dead met = not_begun true x refl
      issues false false dead met = not_begun false false refl
      issues false true dead met = record {
        finds = found true false dead met (idle_owed (requested s.cells o.name) idle);
        owes = grind (arith, nat_tests, owes_asked p s.cells o, put_on, owes p s.cells, at_it, idle_owed, owed_then false true);
        meets = meets_asked p s.cells o (then false true);
      }

    asks : (d x : Bool) (f w : ℤ) → is_dead s.killed n ≡ d → in_session s.cells o.name ≡ x → Reported p answer s (wanted_if (not d && x) (Asks n o.name f w)) s.cells
    asks false true f w dead met = record {
      finds = found true (owes p s.cells n o.name) dead met (sym (ap (λ x. x && is_owed (requested s.cells o.name)) here));
      owes = λ k m. refl;
      meets = λ k m. refl;
    }
    asks _ _ f w dead met = reported_none _ (unchanged_itself p s.cells)

    aborts : (b : Bool) → is_owed (requested s.cells o.name) ≡ b →
        Reported p answer s (wanted_if b (Cancels n o.name)) (set_request o.name (on_request aborted (requested s.cells o.name)) s.cells)
    aborts false owed = asked_alike o _ (aborted_owed (requested s.cells o.name) ∙ sym owed)
    aborts true owed = record {
      finds = found true true (alive_in (open_for owed)) (open_for owed) owed;
      owes = grind (arith, nat_tests, owes_asked p s.cells o, taken_off, owes p s.cells, at_it, and_right, aborted_owed);
      meets = meets_asked p s.cells o (on_request aborted (requested s.cells o.name));
    }

    closes : is_owed (requested s.cells o.name) ≡ false → (b : Bool) → in_session s.cells o.name ≡ b →
        Reported p answer s (wanted_if b (Closes n o.name)) (set_session o.name false s.cells)
    closes unowed false met = opened_alike o false (sym met)
    closes unowed true met = record {
      finds = found true false (alive_in met) met unowed;
      owes = owes_opened p s.cells o false;
      meets = grind (arith, nat_tests, meets_opened, taken_off, meets, at_it, and_right);
    }

-- ---- at whatever the method works on

module _ (p : Image) (answer : ℤ) (s : State) (fr : Frame) (ts : List Task) where
  -- a method that cancels has its request completed as it ends
  pub ended_same : not (is_cancel (method_role p fr.method) && int_eq (status_of (own_request s.cells fr.receiver)) pending) ≡ true →
      Unchanged p s.cells (ended_cells p fr s.cells)
  ended_same e =
      grind (arith, nat_tests, Unchanged p s.cells, unchanged_itself p s.cells, asked_same p answer s fr.receiver, cancelled_owed, completed_owed, not-true)

  module _ (holds : SessionsHold p s) where
    pub connect_reported : (h : Receiver) → IsAlive s.cells h → Reported p answer s
        (wanted_by s p fr ts h An_open) (session_updated s.cells h (opens (has_died s.killed (native_of (receiver_kind p h))) (own_session s.cells h) answer))
    connect_reported (Inside o from) alive = go (native_of (thing_kind p o.thing)) refl
      where
        go : (x : Option ℕ) → native_of (thing_kind p o.thing) ≡ x →
            Reported p answer s (wanted_at s fr ts o x An_open) (set_session o.name (opens (has_died s.killed x) (in_session s.cells o.name) answer) s.cells)
        go None e = opened_elsewhere p answer s o alive e _
        go (Some n) e = connects p answer s holds o alive n e (is_dead s.killed n) (in_session s.cells o.name) refl refl
    connect_reported _ alive = reported_none p answer s _ (unchanged_itself p s.cells)

    pub issue_reported : (clock order a b : ℕ) (h : Receiver) → IsAlive s.cells h → in_phase is_idle (own_request s.cells h) ≡ true →
        Reported p answer s (wanted_by s p fr ts h (A_start a b)) (request_updated s.cells h (on_request (issued_of (receiver_kind p h)
        (asking p answer s clock order (has_died s.killed (native_of (receiver_kind p h))) (own_session s.cells h)) (read fr ts s a)) (own_request s.cells h)))
    issue_reported clock order a b (Inside o from) alive idle = go (native_of (thing_kind p o.thing)) refl
      where
        go : (x : Option ℕ) → native_of (thing_kind p o.thing) ≡ x →
            Reported p answer s (wanted_at s fr ts o x (A_start a b)) (set_request o.name (on_request (issued_of (thing_kind p o.thing)
            (asking p answer s clock order (has_died s.killed x) (in_session s.cells o.name)) (read fr ts s a)) (requested s.cells o.name)) s.cells)
        go None e = asked_elsewhere p answer s o alive e _
        go (Some n) e = issues p answer s holds o alive n e clock order (read fr ts s a) _ _ idle (is_dead s.killed n) (in_session s.cells o.name) refl refl
    issue_reported clock order a b _ alive idle = reported_none p answer s _ (unchanged_itself p s.cells)

    pub ask_reported : (b x : ℕ) (h : Receiver) → IsAlive s.cells h → Reported p answer s (wanted_by s p fr ts h (An_ask b x)) s.cells
    ask_reported b x y alive = grind (arith, nat_tests, reported_none p answer s, unchanged_itself p s.cells, asks p answer s holds)

    pub abort_reported : (h : Receiver) → IsAlive s.cells h →
        Reported p answer s (wanted_by s p fr ts h A_cancel) (request_updated s.cells h (on_request aborted (own_request s.cells h)))
    abort_reported (Inside o from) alive = go (native_of (thing_kind p o.thing)) refl
      where
        go : (x : Option ℕ) → native_of (thing_kind p o.thing) ≡ x →
            Reported p answer s (wanted_at s fr ts o x A_cancel) (set_request o.name (on_request aborted (requested s.cells o.name)) s.cells)
        go None e = asked_elsewhere p answer s o alive e _
        go (Some n) e = aborts p answer s holds o alive n e (is_owed (requested s.cells o.name)) refl
    abort_reported _ alive = reported_none p answer s _ (unchanged_itself p s.cells)

    pub close_reported : (h : Receiver) → IsAlive s.cells h → is_owed (own_request s.cells h) ≡ false →
        Reported p answer s (wanted_by s p fr ts h A_close) (session_updated s.cells h false)
    close_reported (Inside o from) alive unowed = go (native_of (thing_kind p o.thing)) refl
      where
        go : (x : Option ℕ) → native_of (thing_kind p o.thing) ≡ x → Reported p answer s (wanted_at s fr ts o x A_close) (set_session o.name false s.cells)
        go None e = opened_elsewhere p answer s o alive e false
        go (Some n) e = closes p answer s holds o alive n e unowed (in_session s.cells o.name) refl
    close_reported _ alive unowed = reported_none p answer s _ (unchanged_itself p s.cells)
