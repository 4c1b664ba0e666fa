-- Each turn tells what its kill or its completion does: what a timer completes no native serves, and what is dispatched is completed before.
use Rattle.std.proofs.lemmas.Bool.Decides.{nat_tests}
use Rattle.std.proofs.Common.{Bool, List, None, Option, Some, [], ap, cond, false, refl, subst, sym, true, ℕ, ℤ, ◌&&◌, ◌==◌, ◌∙◌, ◌∷◌, ◌≡◌, pos, arith}
use Rattle.std.proofs.lemmas.Bool.{not-true, and_from, and_parts, and_right, or_from}
use Rattle.std.proofs.lemmas.List.Folds.{list_any-append}
use Rattle.std.specs.Ordering.{int_eq}
use Rattle.std.specs.Prelude.{not}
use Rattle.aom_image.specs.Image.{Image}
use Rattle.aom_image.specs.declared.method.Thing.{Thing}
use Rattle.aom_determinism.proofs.Calls.{asked_same, still, taken_off}
use Rattle.aom_determinism.proofs.Cells.{unchanged_moved, unchanged_along, Unchanged, meets_asked, native_served, owes_asked, served_so, unchanged_asked}
use Rattle.aom_determinism.proofs.Found.{GoesNow, IsAbout, IsCell, IsDue, is_due, is_found_ready, stands_at, turn_about}
use Rattle.aom_determinism.proofs.Requests.{completed_owed, completed_with_owed, taken_owed}
use Rattle.aom_determinism.specs.Laws.{TurnsKillOrComplete}
use Rattle.aom_determinism.specs.Owed.{CompletesOwed, SessionsHold, has_name, killed_turned, meets, meets_turned, owes, owes_turned, serves, serves_object}
use Rattle.aom_typing_rules.specs.Typing.{Typing}
use Rattle.aom_determinism.proofs.SafetyLemmas.{Picked, accepts, attends, goes_same, guarded_goes, handles, parts as by_parting, picked_so, recorded_so}
use Rattle.aom_semantics.specs.Requests.{completed_with, is_active, on_request, pending, recorded, taken_up, thing_kind, timed_out}
use Rattle.aom_roles.specs.Classes.{sessions_in, sessions_of}
use Rattle.aom_safety.specs.Kept.{ClientsFit}
use Rattle.aom_semantics.specs.Natives.{all_detached, is_outstanding_at, is_owed, is_served_by, native_of, terminated, terminated_request}
use Rattle.aom_semantics.specs.Places.{Cell, Request, requested}
use Rattle.aom_semantics.specs.State.{CompletedTwice, Goes, Inside, State}
use Rattle.aom_safety.specs.WellTyped.{WellTyped}
use Rattle.aom_semantics.specs.World.{taken_from, observed_one, Executes, AnswersWell, Candidate, Completes, Kills, Picks, Polls, Strays}
use Rattle.aom_semantics.specs.World.{Timed, Turning, answered_by, cell_at, is_ready, turned, turning, with_request}
use Rattle.aom_semantics.specs.Servers.{is_server}
use Rattle.aom_determinism.proofs.Services.{unchanged_served, unchanged_commanded, commanded_killed}

-- ---- a native is killed

-- what it serves another does not
served_there : (p : Image) (n k : ℕ) (t : Thing) → is_served_by p n t ≡ true → is_served_by p k t ≡ (n == k)
served_there p n k t e = served_so p k n t (native_served p n t e)

-- what no one has there is as it was elsewhere
detachment : (p : Image) (n k : ℕ) (t : Thing) (v : Bool) → (is_served_by p k t && cond (is_served_by p n t) false v) ≡ (not (n == k) && (is_served_by p k t && v))
detachment p n k t v = grind (arith, served_there p n k t)

detached_owed : (b : Bool) (r : Option Request) → is_owed (cond b (terminated_request r) r) ≡ cond b false (is_owed r)
detached_owed b r = grind (arith, completed_with_owed terminated refl r)

owes_detached : (p : Image) (n : ℕ) (cs : List Cell) (k m : ℕ) → owes p (all_detached p n cs) k m ≡ (not (n == k) && owes p cs k m)
owes_detached p n [] k m = sym (and_right (not (n == k)) false refl)
owes_detached p n (c ∷ cs) k m =
    grind (arith, owes_detached p n cs k m, detached_owed (is_served_by p n c.object.thing) c.request, detachment p n k c.object.thing (is_owed c.request))

meets_detached : (p : Image) (n : ℕ) (cs : List Cell) (k m : ℕ) → meets p (all_detached p n cs) k m ≡ (not (n == k) && meets p cs k m)
meets_detached p n [] k m = sym (and_right (not (n == k)) false refl)
meets_detached p n (c ∷ cs) k m = grind (arith, meets_detached p n cs k m, detachment p n k c.object.thing c.session)

-- ---- a timer is due

-- a request at a native has no timer
module _ (p : Image) (t : Typing) (s : State) (w : WellTyped p t s) where
  due_same : (x : Timed) → IsDue s.cells x → Unchanged p s.cells (with_request timed_out x.object s.cells)
  due_same x due = unchanged_asked p s.cells x.object (on_request timed_out (requested s.cells x.object.name))
      (λ k. still p (pos 0) s x.object due.1.lives (grind arith) k _ _)

  -- ---- an object is dispatched

  ready_same : (y : Candidate) → IsCell s.cells y.owned_object.object (Some y.request) → is_ready y.request ≡ true →
      Unchanged p s.cells (with_request taken_up y.owned_object.object s.cells)
  ready_same y cell ready =
      let own = requested s.cells y.owned_object.object.name in
      let completed = not-true (int_eq y.request.status pending) (and_parts (is_active y.request.phase) (not (int_eq y.request.status pending)) ready).1 in
      asked_same p (pos 0) s (Inside y.owned_object.object y.owned_object.place) (on_request taken_up own) (grind (arith, nat_tests, taken_owed, completed_owed))

  -- no native serves a server
  server_unserved : (x : Thing) → is_server p x ≡ true → native_of (thing_kind p x) ≡ None
  unfolding sessions_in sessions_of
  server_unserved x server = grind (arith, nat_tests)

  -- what is no server is ready, since nothing waits in its queue
  picked_same : (y : Candidate) → ClientsFit p s.clients s.cells → IsCell s.cells y.owned_object.object (Some y.request) → GoesNow s.cells y →
      Unchanged p s.cells (with_request taken_up y.owned_object.object s.cells)
  picked_same y fit cell now = go (is_server p y.owned_object.object.thing) refl
    where
      go : (b : Bool) → is_server p y.owned_object.object.thing ≡ b → Unchanged p s.cells (with_request taken_up y.owned_object.object s.cells)
      go true server = unchanged_asked p s.cells y.owned_object.object _ (λ k. still p (pos 0) s y.owned_object.object cell.lives (server_unserved y.owned_object.object.thing server) k _ _)
      go false plain = ready_same y cell (grind (arith, nat_tests))

  -- an object is dispatched, or a server with the first of its queue
  pick_same : (y : Candidate) (u : State) → ClientsFit p s.clients s.cells → IsCell s.cells y.owned_object.object (Some y.request) → GoesNow s.cells y →
      Picked p s y.owned_object u → Unchanged p s.cells u.cells × (u.killed ≡ s.killed)
  pick_same y u fit cell now d = elim d as (λ v d. Unchanged p s.cells v.cells × (v.killed ≡ s.killed)) [
    | handles m at ↦ (picked_same y fit cell now, refl)
    | accepts client m at ↦ (unchanged_served p s.cells y.owned_object.object.name _, refl)
    | attends client message m o there at ↦ (
      unchanged_along p s.cells (taken_from y.owned_object.object.name s).cells _ (unchanged_served p s.cells y.owned_object.object.name _)
          (grind (arith, nat_tests, unchanged_moved)),
      refl,
    )
    | by_parting client o there ↦ (
      unchanged_along p s.cells (taken_from y.owned_object.object.name s).cells _ (unchanged_served p s.cells y.owned_object.object.name _)
          (grind (arith, nat_tests, unchanged_moved)),
      refl,
    )
  ]

  -- ---- a request is completed

  module _ (n : ℕ) (i : ℕ) (c : Cell) (at : cell_at s.cells i ≡ Some c) (owed : is_outstanding_at p n c ≡ true) (code : ℤ)
      (settled : int_eq code pending ≡ false) where
    cell : IsCell s.cells c.object c.request
    cell = stands_at s.cells w.good.no_duplicates i c at

    parts : (is_served_by p n c.object.thing ≡ true) × (is_owed c.request ≡ true)
    parts = and_parts (is_served_by p n c.object.thing) (is_owed c.request) owed

    outstanding : is_owed (requested s.cells c.object.name) ≡ true
    outstanding = ap is_owed cell.asked ∙ parts.1

    served : (k : ℕ) → serves p s.cells k c.object.name ≡ (n == k)
    served k = ap (λ o. serves_object p k o) cell.lives ∙ served_there p n k c.object.thing parts.0

    owes_before : owes p s.cells n c.object.name ≡ true
    owes_before = and_from (serves p s.cells n c.object.name) (is_owed (requested s.cells c.object.name))
        (ap (λ o. serves_object p n o) cell.lives ∙ parts.0) outstanding

    owes_completed : (k m : ℕ) →
        owes p (with_request (completed_with code) c.object s.cells) k m ≡ (not ((n == k) && has_name (cell_at s.cells i) m) && owes p s.cells k m)
    owes_completed k m = grind (arith, nat_tests, owes_asked p s.cells c.object, taken_off, served k, outstanding, and_right, completed_with_owed code settled)

-- ---- any turn

-- what a turn tells of the state after it
pub record Tale (p : Image) (s u : State) (k : Turning) : Type 0 where
  pub completes : CompletesOwed p s.cells k
  pub owes : (n m : ℕ) → owes p u.cells n m ≡ owes_turned s.cells k n m (owes p s.cells n m)
  pub meets : (n m : ℕ) → meets p u.cells n m ≡ meets_turned k n (meets p s.cells n m)
  pub killed : u.killed ≡ killed_turned k s.killed

module _ (p : Image) (t : Typing) (s u : State) (w : WellTyped p t s) where
  asked_then : (i : ℕ) (c : Cell) → cell_at s.cells i ≡ Some c → (n : ℕ) (code : ℤ) → is_outstanding_at p n c ≡ true →
      answered_by p n (Some c) code s ≡ Goes u → Tale p s u (Polls n (Some (record { cell = i; code = code })))
  asked_then i c at n code owed e = subst (λ (v : State). Tale p s v (Polls n (Some (record { cell = i; code = code }))))
      (guarded_goes ((is_outstanding_at p n c, CompletedTwice) ∷ []) _ u e) (record {
        completes = (c, at, owes_before p t s w n i c at owed (recorded code) (recorded_so code));
        owes = owes_completed p t s w n i c at owed (recorded code) (recorded_so code);
        meets = meets_asked p s.cells c.object _;
        killed = refl;
      })

  pub reported : (k : Turning) → ClientsFit p s.clients s.cells → IsAbout s k → AnswersWell p s k → turned p s k ≡ Goes u → Tale p s u k
  reported Strays fit about well e = cc
  reported (Completes o) fit about well e = let same =
      subst (λ x. Unchanged p s.cells (with_request timed_out x s.cells)) about.2 (due_same p t s w about.0 (is_due s.cells w.good.no_duplicates about.0 about.1)) in
      subst (λ (v : State). Tale p s v (Completes o)) (goes_same _ u e) (record { completes = tt; owes = same.owes; meets = same.meets; killed = refl })
  reported (Kills n) fit about well e = subst (λ (v : State). Tale p s v (Kills n))
      (goes_same _ u e) (record { completes = tt; owes = owes_detached p n s.cells; meets = meets_detached p n s.cells; killed = refl })
  reported (Polls n (Some a)) fit about well e = asked_then a.cell well.0 well.1 n a.code well.2 (subst (λ c. answered_by p n c a.code s ≡ Goes u) well.1 e)
  reported (Picks x) fit about well e =
      let cell = is_found_ready s.cells w.good.no_duplicates about.0 about.1 in
      let same = pick_same p t s w about.0 u fit cell.0 cell.1 (subst (λ y. Picked p s y u) (sym about.2) (picked_so p s u x e)) in
      record { completes = tt; owes = same.0.owes; meets = same.0.meets; killed = same.1 }
  reported (Executes client command name) fit about well e =
      let same = unchanged_commanded p t (observed_one s) w.layers w.good client name about command in
      subst (λ (v : State). Tale p s v (Executes client command name))
      (goes_same _ u e) (record { completes = tt; owes = same.owes; meets = same.meets; killed = commanded_killed p (observed_one s) client name command })
  reported r fit about well e = subst (λ (v : State). Tale p s v r) (goes_same _ u e) (record { completes = tt; owes = λ n m. refl; meets = λ n m. refl; killed = refl })

-- ---- sessions hold after it

module _ (p : Image) (s : State) (holds : SessionsHold p s) where
  pub sessions_turned : (u : State) (k : Turning) → Tale p s u k → SessionsHold p u
  sessions_turned u k tale = search (arith, nat_tests, meets, list_any-append, or_from, not-true)

pub turns_kill_or_complete : TurnsKillOrComplete
turns_kill_or_complete p t outside observed s u w well fit holds e =
    let tale = reported p t s u w (turning outside observed s) fit (turn_about outside observed s well.name) well.completion e in
    record { completes = tale.completes; owes = tale.owes; meets = tale.meets; killed = tale.killed; sessions = sessions_turned p s holds u (turning outside observed s) tale }
