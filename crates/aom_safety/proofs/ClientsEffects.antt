-- What is kept of clients stays so in each effect of an instruction: by the cells that it changes, and the tasks below it.
use Rattle.std.specs.Prelude.{◌⊎◌}
use Rattle.std.proofs.Common.{Bool, List, None, Option, Some, cond, false, inl, inr, length, refl, subst, suc, sym, true, ℕ, ℤ, ◌∷◌, ◌≡◌, arith}
use Rattle.std.proofs.lemmas.Option.{none-some}
use Rattle.aom_image.specs.Image.{Image}
use Rattle.aom_image.specs.Views.{arguments_of}
use Rattle.aom_image.specs.declared.class.ClassKind.{ClassKind}
use Rattle.aom_image.specs.declared.method.Thing.TheVariants.{Message}
use Rattle.aom_clients.specs.declared.client.Client.{Client}
use Rattle.aom_instructions.specs.declared.instr.Instr.{Instr}
use Rattle.aom_instructions.specs.declared.instr.Instr.TheVariants.{Xor}
use Rattle.aom_roles.specs.Tests.{AllTrue}
use Rattle.aom_safety.proofs.ClientsFit.{IsFit}
use Rattle.aom_safety.proofs.ClientsSteady.{Steady, fit_steady}
use Rattle.aom_safety.proofs.ClientsMoves.{Fewer, IsSteady, steady_asked, steady_moved, steady_passed, steady_update, tasks_steady}
use Rattle.aom_safety.proofs.ClientsTurn.{tasks_begun, on_none}
use Rattle.aom_semantics.specs.Cleanup.{to_trap, top_place}
use Rattle.aom_semantics.specs.Effects.{Calls, Cancels, Destroys, Destroys_last, Effect, Goes_on, Leaves, Replied, Requested, Returns}
use Rattle.aom_semantics.specs.Effects.{Same as Unchanged, Sets_trap, Update}
use Rattle.aom_semantics.specs.Effects.{applied, asking_with, cancels_if, deals, deletes, effect, hands_unless, jumps_unless, makes_unless, needs, round}
use Rattle.aom_semantics.specs.Requests.{Asking, aborted, cancelling, completed_at_once, first_request, receiver_kind, issued_of, on_request, own_request, waits}
use Rattle.aom_semantics.specs.Tokens.{busy, is_message_store_full}
use Rattle.aom_safety.specs.Kept.{ClientsFit, TasksKept}
use Rattle.aom_semantics.specs.Objects.{is_thing}
use Rattle.aom_semantics.specs.Places.{Cell, Going, Object, Request, held, named}
use Rattle.aom_semantics.specs.State.{Choice, Frame, Item, Run, State, Task}
use Rattle.aom_semantics.specs.Words.{here, read}

-- ---- what becomes of a request waits for no new token

pub fewer_on : (f : Request → Request) → ((r : Request) (k : ℕ) → (f r).token ≡ Some k → r.token ≡ Some k) → (q : Option Request) → Fewer (on_request f q) q
fewer_on f fewer x k e = grind arith

fewer_issued : (kind : Option ClassKind) (asking : Asking) (a : ℤ) (r : Request) (k : ℕ) → (issued_of kind asking a r).token ≡ Some k → r.token ≡ Some k
fewer_issued kind asking a r k e = grind arith

-- ---- the effects that this is of

-- whose updates keep what servers have; no method returns
module _ (fr : Frame) (s : State) where
  abbrev pub Fine : Effect → Type 0
  Fine (Goes_on ch) = IsSteady fr s ch.update
  Fine (Leaves code u) = IsSteady fr s u
  Fine (Returns g a) = ⊥
  Fine _ = Unit {0}

module _ (p : Image) (fr : Frame) (ts : List Task) (s : State) where
  -- an update completes a message, which is there
  abbrev pub IsCompleting : Update → Type 0
  IsCompleting (Replied a code) = is_thing p Message (held s.cells (here fr ts s a)) ≡ true
  IsCompleting _ = ⊥

  -- an answer is given: a message is completed, or a method returns
  abbrev pub IsAnswer : Effect → Type 0
  IsAnswer (Goes_on ch) = IsCompleting ch.update
  IsAnswer (Returns g a) = Unit {0}
  IsAnswer _ = ⊥

module _ (p : Image) (c : Choice) (fr : Frame) (ts : List Task) (s : State) (free : named s.cells c.name ≡ None) where
  fine_cond : (b : Bool) (x y : Effect) → Fine fr s x → Fine fr s y → Fine fr s (cond b x y)
  fine_cond x y z h k = grind arith

  fine_unless : (o : Option Object) (to : ℕ) → Fine fr s (jumps_unless fr o to)
  fine_unless x to = grind arith

  fine_round : (n depth to : ℕ) → Fine fr s (round n depth to)
  fine_round x depth to = grind arith

  fine_cancels : (b : Bool) (m : Option ℕ) → Fine fr s (cancels_if fr b m)
  fine_cancels x m = grind arith

  fine_deletes : (o : Option Object) (a : ℕ) → Fine fr s (deletes fr o a)
  fine_deletes x a = grind arith

  fine_deals : (items : List Item) (o : Option Object) → Fine fr s (deals fr items o)
  fine_deals x y = grind arith

  fine_makes : (b : Bool) (x a : ℕ) → IsSteady fr s (makes_unless b c.name x a)
  fine_makes x y a = grind arith

  fine_requests : (f : Request → Request) → ((r : Request) (k : ℕ) → (f r).token ≡ Some k → r.token ≡ Some k) →
      IsSteady fr s (Requested (on_request f (own_request s.cells fr.receiver)))
  fine_requests f fewer = (on_none f (own_request s.cells fr.receiver), fewer_on f fewer (own_request s.cells fr.receiver))

  fine_hands : (b : Bool) (a : ℕ) → IsSteady fr s (hands_unless b c.name a (own_request s.cells fr.receiver))
  fine_hands true a = fine_requests (completed_at_once busy) (λ r k e. absurd (none-some k e))
  fine_hands false a = free

  fine_waits : IsSteady fr s (Requested (on_request waits (own_request s.cells fr.receiver)))
  fine_waits = fine_requests waits (λ r k e. e)

  fine_aborted : IsSteady fr s (Requested (on_request aborted (own_request s.cells fr.receiver)))
  fine_aborted = fine_requests aborted (λ r k e. absurd (none-some k e))

  fine_issued : (a : ℕ) →
      IsSteady fr s (Requested (on_request (issued_of (receiver_kind p fr.receiver) (asking_with p c fr ts s) (read fr ts s a)) (own_request s.cells fr.receiver)))
  fine_issued a = fine_requests (issued_of (receiver_kind p fr.receiver) (asking_with p c fr ts s) (read fr ts s a))
      (fewer_issued (receiver_kind p fr.receiver) (asking_with p c fr ts s) (read fr ts s a))

  fine_enlisted : (priority : ℤ) → IsSteady fr s (Requested (Some (first_request s.cells priority)))
  fine_enlisted priority = (λ e. cc, λ k e. absurd (none-some k e))

  is_fine : (e : Effect) → Fine fr s e → Fine fr s e ⊎ IsAnswer p fr ts s e
  is_fine e f = inl f

  answers : (e : Effect) → IsAnswer p fr ts s e → Fine fr s e ⊎ IsAnswer p fr ts s e
  answers e f = inr f

  pub fine_effect : (i : Instr) → AllTrue (needs p c fr ts s i) → Fine fr s (effect p c fr ts s i) ⊎ IsAnswer p fr ts s (effect p c fr ts s i)
  fine_effect (Xor a b x) met = inl tt
  -- the others too, each a case of its own
  fine_effect _ met = search (
    is_fine,
    answers,
    free,
    fine_waits,
    fine_aborted,
    fine_issued,
    fine_enlisted,
    fine_hands (is_message_store_full p s.cells),
    fine_cond,
    fine_unless,
    fine_round,
    fine_makes,
    fine_deletes,
    fine_deals,
    fine_cancels,
  )

-- ---- the effects

tasks_to_trap : (p : Image) (clients : List Client) (cs : List Cell) (ts : List Task) → TasksKept p clients cs ts → TasksKept p clients cs (to_trap ts)
tasks_to_trap p clients cs (Run fr ∷ ts) k = tasks_to_trap p clients cs ts k
tasks_to_trap p clients cs _ k = k

module _ (p : Image) (fr : Frame) (ts : List Task) (s : State) (fit : ClientsFit p s.clients s.cells) (stage : TasksKept p s.clients s.cells ts) where
  -- with those cells, and tasks over these
  kept_by : (u : State) → u.clients ≡ s.clients → Steady s.cells u.cells → (TasksKept p s.clients u.cells ts → TasksKept p s.clients u.cells u.tasks) → IsFit p u
  kept_by u clients still over = record {
    fit = subst (λ l. ClientsFit p l u.cells) (sym clients) (fit_steady p s.clients s.cells u.cells still fit);
    stage = subst (λ l. TasksKept p l u.cells u.tasks) (sym clients) (over (tasks_steady p s.clients s.cells u.cells still ts stage));
  }

  pub effect_kept : (e : Effect) → Fine fr s e → IsFit p (applied p fr ts s e)
  effect_kept (Goes_on ch) f = kept_by (applied p fr ts s (Goes_on ch)) refl (steady_update p fr ts s ch.update f) (λ k. k)
  effect_kept (Calls target m first) f =
      kept_by (applied p fr ts s (Calls target m first)) refl (steady_passed p fr ts s _ (arguments_of p m) first 0 s.cells) (λ k. k)
  effect_kept (Sets_trap target m first) f =
      kept_by (applied p fr ts s (Sets_trap target m first)) refl (steady_passed p fr ts s _ (arguments_of p m) first 0 s.cells) (λ k. k)
  effect_kept (Cancels m) f = kept_by (applied p fr ts s (Cancels m)) refl
      (steady_asked s.cells fr.receiver (on_request cancelling (own_request s.cells fr.receiver)) (λ e. on_none cancelling (own_request s.cells fr.receiver) e)) (λ k. k)
  effect_kept (Returns g a) f = absurd f
  effect_kept (Leaves code u) f = kept_by (applied p fr ts s (Leaves code u)) refl (steady_update p fr ts s u f) (λ k. tasks_to_trap p s.clients _ ts k)
  effect_kept (Destroys x a words) f = kept_by (applied p fr ts s (Destroys x a words)) refl
      (steady_moved s.cells (here fr ts s a) (Going (suc (length ts))) (λ n m. refl) refl) (λ k. tasks_begun p s.clients _ x _ _ k)
  effect_kept (Destroys_last x) f = kept_by (applied p fr ts s (Destroys_last x)) refl
      (steady_moved s.cells (top_place s.items) (Going (suc (length ts))) (λ n m. refl) refl) (λ k. tasks_begun p s.clients _ x _ _ k)
  effect_kept r f = kept_by (applied p fr ts s r) refl (steady_update p fr ts s Unchanged tt) (λ k. k)
