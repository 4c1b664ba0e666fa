-- What is there stays there as a method moves, returns, or is left: connects wait as before, and the same dispatch stands below all.
use Rattle.std.proofs.lemmas.Bool.Decides.{nat_tests}
use Rattle.std.proofs.Common.{Bool, List, None, Option, Some, [], ap, cond, false, length, refl, subst, sym, true, ℕ, ℤ, ◌&&◌, ◌==◌, ◌∙◌, ◌∷◌, ◌≡◌, arith}
use Rattle.std.proofs.lemmas.Bool.{eqb-true, true≢false}
use Rattle.std.specs.List.{list_any}
use Rattle.std.specs.Prelude.{◌||◌}
use Rattle.aom_image.specs.Image.{Image}
use Rattle.aom_image.specs.Views.{arguments_of}
use Rattle.aom_image.specs.declared.method.Gives.{Gives}
use Rattle.aom_clients.specs.Nodes.{is_connecting_at}
use Rattle.aom_clients.specs.declared.client.Client.{Client}
use Rattle.aom_determinism.proofs.SafetyLemmas.{Fine, client_here, client_there, goes_same, on_none, request_updated_alike, service_moved, steady_asked}
use Rattle.aom_semantics.specs.Calls.{accepted_cells, accepted_clients, answered_by, ended_well, returned}
use Rattle.aom_semantics.specs.Cleanup.{destroyed, to_trap, top_is_whole, unwound}
use Rattle.aom_semantics.specs.Clients.{at_opening, client_at, with_client}
use Rattle.aom_semantics.specs.Destruction.{begun, begun_by}
use Rattle.aom_semantics.specs.Effects.{Calls, Cancels, Destroys, Destroys_last, Effect, Goes_on, Leaves, Returns, Sets_trap, applied}
use Rattle.aom_safety.specs.Kept.{is_connect_of}
use Rattle.aom_semantics.specs.Places.{Cell, Elsewhere, Entry, Going, Object, Place, Session, held, moved}
use Rattle.aom_semantics.specs.Servers.{opened}
use Rattle.aom_semantics.specs.State.{A_mark, Accepts, An_object, An_operation, Destroy, Dispatch, Dispatched, Frame, Goes}
use Rattle.aom_semantics.specs.State.{IsStuck, Item, NullOrDead, Of_server, Run, Serves, State, Task, Trapped, Unwind, resumed}
use Rattle.aom_semantics.specs.Words.{here}
use Rattle.aom_determinism.proofs.Keeping.{UnchangedCalls, unchanged_calls_itself, unchanged_calls_moved, unchanged_calls_passed, unchanged_calls_reserved, unchanged_calls_result, unchanged_calls_steady, unchanged_calls_update, there_by}
use Rattle.aom_determinism.specs.There.{AllThere, AreThere, dispatch_of, waits}

-- ---- the dispatch below

pub dispatch_begun_by : (p : Image) (m : Option ℕ) (o : Object) (height : ℕ) (ts : List Task) → dispatch_of (begun_by p m o height ts) ≡ dispatch_of ts
dispatch_begun_by p x o height ts = grind arith

pub dispatch_begun : (p : Image) (o : Object) (height : ℕ) (ts : List Task) → dispatch_of (begun p o height ts) ≡ dispatch_of ts
dispatch_begun p o height ts = grind (arith, nat_tests, dispatch_begun_by p)

pub dispatch_resumed : (ts : List Task) → dispatch_of (resumed ts) ≡ dispatch_of ts
dispatch_resumed x = grind arith

dispatch_to_trap : (ts : List Task) → dispatch_of (to_trap ts) ≡ dispatch_of ts
dispatch_to_trap (Run fr ∷ ts) = dispatch_to_trap ts
dispatch_to_trap _ = refl

-- ---- the effects of instructions

module _ (p : Image) (fr : Frame) (ts : List Task) (s : State) (there : AreThere s.clients s.cells (dispatch_of ts)) where
  by : (u : State) → u.clients ≡ s.clients → UnchangedCalls s.cells u.cells → dispatch_of u.tasks ≡ dispatch_of ts → AllThere u
  by u same unchanged_calls below = there_by s.clients s.cells (dispatch_of ts) u.clients u.cells (dispatch_of u.tasks) same unchanged_calls below there

  pub effect_there : (e : Effect) → Fine fr s e → AllThere (applied p fr ts s e)
  effect_there (Goes_on ch) f = by (applied p fr ts s (Goes_on ch)) refl (unchanged_calls_update p fr ts s ch.update f) refl
  effect_there (Calls target m first) f = by (applied p fr ts s (Calls target m first)) refl (unchanged_calls_passed p fr ts s _ (arguments_of p m) first 0 s.cells) refl
  effect_there (Sets_trap target m first) f =
      by (applied p fr ts s (Sets_trap target m first)) refl (unchanged_calls_passed p fr ts s _ (arguments_of p m) first 0 s.cells) refl
  effect_there (Cancels m) f = grind (arith, nat_tests, by, unchanged_calls_steady s.cells, steady_asked s.cells fr.receiver, on_none, request_updated_alike s.cells fr.receiver)
  effect_there (Returns g a) f = absurd f
  effect_there (Leaves code u) f = by (applied p fr ts s (Leaves code u)) refl (unchanged_calls_update p fr ts s u f) (dispatch_to_trap ts)
  effect_there (Destroys x a words) f =
      by (applied p fr ts s (Destroys x a words)) refl (grind (arith, nat_tests, unchanged_calls_moved)) (dispatch_begun p x _ (Run _ ∷ ts))
  effect_there (Destroys_last x) f = by (applied p fr ts s (Destroys_last x)) refl (grind (arith, nat_tests, unchanged_calls_moved)) (dispatch_begun p x _ (Run _ ∷ ts))
  effect_there r f = by (applied p fr ts s r) refl (unchanged_calls_itself s.cells) refl

-- ---- a method returns

-- once its connect is served a client does not connect
opening_done : (n : ℕ) (x : Client) → is_connecting_at n (at_opening 0 x) ≡ false
opening_done n x = grind arith

-- one of two, where the second is none
pub or_none : (a b x : Bool) → x ≡ false → (a || (b && x)) ≡ true → (a || false) ≡ true
or_none x b y e h = grind arith

module _ (p : Image) (fr : Frame) (ts : List Task) (s : State) where
  accepted_there : (d : Dispatch) (from : Place) → AreThere s.clients s.cells (Some d) →
      AreThere (accepted_clients d s.clients) (accepted_cells d from s.cells) (Some (ended_well d))
  accepted_there (Of_server x c Accepts) from there = record { asked = asked; serves = tt }
    where
      cells : List Cell
      cells = moved from (Elsewhere (Session x.object.name c)) s.cells

      then : List Client
      then = with_client c (at_opening 0 (client_at s.clients c)) s.clients

      asked : (n d : ℕ) → is_connecting_at n (client_at then d) ≡ true → (waits (accepted_cells (Of_server x c Accepts) from s.cells) n d || false) ≡ true
      asked n d e = go (c == d) refl
        where
          go : (b : Bool) → (c == d) ≡ b → (waits (accepted_cells (Of_server x c Accepts) from s.cells) n d || false) ≡ true
          go true same =
              let now = ap (λ k. client_at then k) (sym (eqb-true c d same)) ∙ client_here c (at_opening 0 (client_at s.clients c)) s.clients in
              absurd (true≢false (sym e ∙ ap (is_connecting_at n) now ∙ opening_done n (client_at s.clients c)))
          go false other =
              let before = there.asked n d (ap (is_connecting_at n) (sym (client_there c d (at_opening 0 (client_at s.clients c)) s.clients other)) ∙ e) in
              let waited = or_true (waits s.cells n d) (or_none (waits s.cells n d) (x.object.name == n) (c == d) other before) in
              let then_waits = (unchanged_calls_reserved (opened c) (λ v k h. h) cells x.object.name).connects n d
              (ap (λ v. list_any (is_connect_of d) v.queue) (service_moved s.cells from (Elsewhere (Session x.object.name c)) n) ∙ waited) in
              ap (λ b. b || false) then_waits
            where
              or_true : (a : Bool) → (a || false) ≡ true → a ≡ true
              or_true a h = grind arith
  accepted_there (Of_server x c (Serves o)) from there = record { asked = there.asked; serves = tt }
  accepted_there _ from there = there

  answered_there : (answer : ℤ) (d : Dispatch) → AreThere s.clients s.cells (Some d) → AreThere s.clients s.cells (Some (answered_by answer d))
  answered_there answer x there = grind arith

  pub returned_there : (g : Gives) (a : ℕ) (below : List Task) → s.tasks ≡ Run fr ∷ ts →
      AreThere s.clients s.cells (dispatch_of below) → AreThere s.clients s.cells (dispatch_of ts) → AllThere (returned p fr ts s g a below)
  returned_there g a (Run caller ∷ below) tasks there all =
      there_by s.clients s.cells (dispatch_of below) s.clients _ _ refl (unchanged_calls_result p fr ts s g a _ below) refl there
  returned_there g a (Trapped ∷ Run caller ∷ below) tasks there all =
      there_by s.clients s.cells (dispatch_of below) s.clients _ _ refl (unchanged_calls_result p fr ts s g a _ below) refl there
  returned_there g a (Trapped ∷ Dispatched d ∷ below) tasks there all = accepted_there d (here fr ts s a) there
  returned_there g a (Destroy ∷ below) tasks there all = grind (arith, nat_tests)
  returned_there g a (Unwind code ∷ below) tasks there all = there
  returned_there g a (Dispatched d ∷ below) tasks there all = answered_there _ d there
  returned_there g a _ tasks there all = subst (λ l. AreThere s.clients s.cells (dispatch_of l)) (sym tasks) all

-- ---- a leave

module _ (p : Image) (s : State) where
  pub unwound_there : (code : ℤ) (ts : List Task) (items : List Item) (u : State) → AreThere s.clients s.cells (dispatch_of ts) →
      unwound p code ts s items ≡ Goes u → AllThere u
  unwound_there code ts [] u there e = cc
  unwound_there code ts (An_object ∷ items) u there e =
      subst AllThere (goes_where (top_is_whole s.cells (An_object ∷ items)) _ e) (by_object (held s.cells (Entry (length items))))
    where
      goes_where : (b : Bool) (v : State) → cond b (Goes v) (IsStuck NullOrDead) ≡ Goes u → v ≡ u
      goes_where b v e = grind arith

      by_object : (o : Option Object) → AllThere (destroyed p o items (Unwind code ∷ ts) s)
      by_object None = there
      by_object (Some o) = there_by s.clients s.cells (dispatch_of ts) s.clients _ _ refl
          (unchanged_calls_moved s.cells (Entry (length items)) (Going _) (λ n c. refl) (λ n c. refl)) (dispatch_begun p o (length items) (Unwind code ∷ ts)) there
  unwound_there code ts (An_operation m w ∷ items) u there e = subst AllThere (goes_same _ u e) there
  unwound_there code ts (A_mark ∷ items) u there e = grind arith
