-- What it takes that each step keeps a law of tasks, and that it then does: once for all such laws, by the moves.
use Rattle.std.proofs.lemmas.Bool.Decides.{nat_tests}
use Rattle.std.proofs.Common.{arith, Bool, List, Option, Some, [], length, subst, suc, sym, true, ℕ, ℤ, ◌-◌, ◌∙◌, ◌∷◌, ◌≡◌}
use Rattle.aom_image.specs.Image.{Image}
use Rattle.aom_image.specs.Views.{instr_at}
use Rattle.aom_instructions.specs.Table.{action_of, transfer_of}
use Rattle.aom_instructions.specs.declared.action.Action.TheVariants.{Call, Cancel}
use Rattle.aom_instructions.specs.declared.action.CallMode.TheVariants.{Plain, Trapped as Under_trap}
use Rattle.aom_instructions.specs.declared.instr.Instr.{Instr}
use Rattle.aom_instructions.specs.declared.instr.Target.{Target}
use Rattle.aom_instructions.specs.declared.transfer.Transfer.TheVariants.{Repeat}
use Rattle.aom_image.specs.declared.method.Role.TheVariants.{Destruct, Error}
use Rattle.aom_image.specs.declared.method.Gives.{Gives}
use Rattle.aom_roles.specs.Tests.{AllTrue}
use Rattle.aom_link_conditions.specs.Jumps.{jump_of}
use Rattle.aom_safety.proofs.Fitting.{StraightBy, straight_by}
use Rattle.aom_safety.proofs.Moving.{steps_are_moves}
use Rattle.aom_semantics.specs.Calls.{below_top, entered, received}
use Rattle.aom_semantics.specs.Cleanup.{code_reported, has_trap, operation_frame, to_trap}
use Rattle.aom_link_conditions.specs.Roles.{role_of}
use Rattle.aom_semantics.specs.Destruction.{destructor_frame, begun}
use Rattle.aom_semantics.specs.Effects.{Calls, Cancels, Counts, Destroys, Destroys_last, Effect, Goes_on, Jumps}
use Rattle.aom_semantics.specs.Effects.{Leaves, Operates, Repeats, Returns, Sets_trap, applied, with_words}
use Rattle.aom_semantics.specs.Moves.{counted, dispatch_ends, error_frame, main_ends, needs, step}
use Rattle.aom_semantics.specs.Places.{Object}
use Rattle.aom_semantics.specs.State.{Receiver, Of_server, Accepts, Serves, Disconnects, A_mark, An_operation, Choice, Destroy, Dispatch}
use Rattle.aom_semantics.specs.State.{Dispatched, Frame, Goes, Inside, Item, Asks, Of_object, Run, OwnedObject, State, Task, Trapped}
use Rattle.aom_semantics.specs.State.{Unwind, counter, frame_as, frame_of, next, set_counter, to_place}
use Rattle.aom_safety.specs.Steps.{Empties, Acts, Arrives, Clears, Comes_out, Ends, Fits, IsStraight, Move, Rests, Sets, Undoes, Reclaims}
use Rattle.aom_safety.specs.Tasks.{Below, Holds, TaskLaw}
use Rattle.aom_semantics.specs.World.{observed_one, Observed, Environment, turn}
use Rattle.aom_safety.proofs.Turned.{executes, handles, accepts, attends, parts, commanded_kept, completes, keeps_all, kills, picks, turns_so}
use Rattle.aom_semantics.specs.Requests.{cancel_method, part_of}

-- an instruction is at hand, with its needs met
pub record Acting (p : Image) (c : Choice) (l : TaskLaw) (s : State) (fr : Frame) (ts : List Task) (i : Instr) : Type 0 where
  pub tasks : s.tasks ≡ Run fr ∷ ts
  pub there : instr_at p fr.method fr.place ≡ Some i
  pub met : AllTrue (needs p c fr ts (counted p s) i)
  pub runs : l.Runs fr ts

-- each kind of move keeps the law
pub record Kept (p : Image) (c : Choice) (l : TaskLaw) (s : State) : Type 0 where
  pub goes_on : (fr : Frame) (ts : List Task) (i : Instr) → Acting p c l s fr ts i → IsStraight i → (words : List (Option ℤ)) →
      l.Runs (next (with_words fr words)) ts
  pub jumps : (fr : Frame) (ts : List Task) (i : Instr) → Acting p c l s fr ts i → (to : ℕ) → jump_of i ≡ Some to → l.Runs (to_place fr to) ts
  pub counts : (fr : Frame) (ts : List Task) (i : Instr) → Acting p c l s fr ts i → (d n : ℕ) → Sets i d n → l.Runs (next (set_counter fr d n)) ts
  pub repeats : (fr : Frame) (ts : List Task) (i : Instr) → Acting p c l s fr ts i → (d to k : ℕ) → transfer_of i ≡ Repeat d to → counter fr d - 1 ≡ suc k →
      l.Runs (to_place (set_counter fr d (suc k)) to) ts
  -- it waits below what it begins, and goes on once that is over
  pub waits : (fr : Frame) (ts : List Task) (i : Instr) → Acting p c l s fr ts i → IsStraight i → (words : List (Option ℤ)) → l.Waits (with_words fr words) ts
  pub resumes : (fr : Frame) (ts : List Task) → l.Waits fr ts → (words : List (Option ℤ)) → l.Runs (next (with_words fr words)) ts
  pub calls : (fr : Frame) (ts : List Task) (i : Instr) → Acting p c l s fr ts i → (target : Target) (m first x : ℕ) →
      action_of i ≡ Call Plain target m first x → l.Runs (entered p fr ts (counted p s) target m first (length s.items)) (Run fr ∷ ts)
  pub cancels : (fr : Frame) (ts : List Task) (i : Instr) → Acting p c l s fr ts i → (m : ℕ) → action_of i ≡ Cancel → cancel_method p fr ≡ Some m →
      l.Runs (frame_as m fr.receiver fr.view (length s.items)) (Run fr ∷ ts)
  pub traps : (fr : Frame) (ts : List Task) (i : Instr) → Acting p c l s fr ts i → (target : Target) (m first x : ℕ) →
      action_of i ≡ Call Under_trap target m first x →
      l.Runs (entered p fr ts (counted p s) target m first (length (A_mark ∷ s.items))) (Trapped ∷ Run fr ∷ ts) × l.Stands (Run fr ∷ ts)
  pub destructs : (o : Object) (x m height : ℕ) (ts : List Task) → role_of p x Destruct ≡ Some m → l.Runs (destructor_frame p m o (length ts) height) (Destroy ∷ ts)
  -- an `error` method is asked
  pub asks : (x : OwnedObject) (m : ℕ) (code : ℤ) (height : ℕ) → part_of p Error x.object.thing ≡ Some m → l.Runs (error_frame m x code height) (Dispatched (Asks x) ∷ [])
  pub undoes : (m : ℕ) (w : ℤ) (items : List Item) (ts : List Task) → s.items ≡ An_operation m w ∷ items → l.Runs (operation_frame m w (length items)) ts
  pub unwinds : (code : ℤ) (ts : List Task) → l.Stands ts → l.Unwinds code (Trapped ∷ ts)

-- a result, and a code, change words alone
pub receives : (p : Image) (fr : Frame) (ts : List Task) (v : State) (g : Gives) (a x : ℕ) (caller : Frame) →
    received p fr ts v g a x caller ≡ with_words caller (received p fr ts v g a x caller).words
receives p fr ts v x a y caller = grind arith

pub reported : (g : Gives) (x : ℕ) (code : ℤ) (fr : Frame) → code_reported g x code fr ≡ with_words fr (code_reported g x code fr).words
reported x y code fr = grind arith

-- a destruction begins
module _ (p : Image) (l : TaskLaw) (destructs : (o : Object) (x m height : ℕ) (ts : List Task) →
    role_of p x Destruct ≡ Some m → l.Runs (destructor_frame p m o (length ts) height) (Destroy ∷ ts)) where
  -- and the next of its line
  begun_holds : (o : Object) (height : ℕ) (ts : List Task) → Below l ts → Holds l (begun p o height ts)
  begun_holds o height ts b = grind (arith, nat_tests)

module _ (p : Image) (c : Choice) (l : TaskLaw) (s : State) (k : Kept p c l s) where
  begins_over : (o : Object) (height : ℕ) (ts : List Task) → Below l ts → Holds l (begun p o height ts)
  begins_over o height ts b = begun_holds p l k.destructs o height ts b

  -- a leave comes to its trap
  lands : (code : ℤ) (ts : List Task) → has_trap ts ≡ true → Below l ts → Holds l (Unwind code ∷ to_trap ts)
  lands code (Run fr ∷ ts) e b = lands code ts e b.1
  lands code x e b = grind arith

  closes : (v : State) (b : Bool) (root : Option Object) → Holds l (main_ends p b root v).tasks
  closes v x root = grind (arith, nat_tests, begins_over)

  ends : (d : Dispatch) → Holds l (dispatch_ends p d (counted p s)).tasks
  ends x = grind (arith, nat_tests, closes)

  module _ (fr : Frame) (ts : List Task) (has_task : s.tasks ≡ Run fr ∷ ts) (h : Holds l (Run fr ∷ ts)) where
    straight : (i : Instr) (e : Effect) → Fits p c fr ts (counted p s) i e → StraightBy p c fr ts (counted p s) i e
    straight = straight_by p c fr ts (counted p s)

    acts : (i : Instr) (e : Effect) → Acting p c l s fr ts i → Fits p c fr ts (counted p s) i e → Holds l (applied p fr ts (counted p s) e).tasks
    acts i (Goes_on ch) a f = (k.goes_on fr ts i a f.0 ch.words, h.1)
    acts i (Jumps to) a f = (k.jumps fr ts i a to f, h.1)
    acts i (Counts d n) a f = (k.counts fr ts i a d n f, h.1)
    acts i (Repeats d n to) a f = (subst (λ n. l.Runs (to_place (set_counter fr d n) to) ts) (sym f.2) (k.repeats fr ts i a d to f.1 f.0 (f.3 ∙ f.2)), h.1)
    acts i (Calls target m first) a f =
        (k.calls fr ts i a target m first f.0 f.1, (k.waits fr ts i a (straight i (Calls target m first) f) fr.words, h.1))
    acts i (Sets_trap target m first) a f =
        let t = k.traps fr ts i a target m first f.0 f.1 in
        (t.0, (t.1, (k.waits fr ts i a (straight i (Sets_trap target m first) f) fr.words, h.1)))
    acts i (Cancels m) a f = (k.cancels fr ts i a m f.0 f.1, (k.waits fr ts i a (straight i (Cancels m) f) fr.words, h.1))
    acts i (Returns g x) a f = grind (arith, nat_tests)
    acts i (Leaves code u) a f = lands code ts f.0 h.1
    acts i (Destroys o x words) a f =
        begins_over o (length s.items) (Run (with_words fr words) ∷ ts) (k.waits fr ts i a (straight i (Destroys o x words) f) words, h.1)
    acts i (Destroys_last o) a f =
        begins_over o (length (below_top s.items)) (Run fr ∷ ts) (k.waits fr ts i a (straight i (Destroys_last o) f) fr.words, h.1)
    acts i (Operates m w) a f = (k.undoes m w (below_top s.items) (Run fr ∷ ts) f.1, (k.waits fr ts i a (straight i (Operates m w) f) fr.words, h.1))

  kept : (u : State) → Holds l s.tasks → Move p c s u → Holds l u.tasks
  kept u h (Rests still e) = subst (λ v. Holds l v.tasks) (sym e) h
  kept u h (Acts fr ts i e at there met fits same) = grind (arith, nat_tests, acts, there, met)
  kept u h (Reclaims ts o at there owns same) = subst (λ v. Holds l v.tasks) (sym same) (grind arith)
  kept u h (Empties ts o at there same) = grind (arith, nat_tests)
  kept u h (Clears code ts items o at top there same) = grind (arith, nat_tests, begins_over o)
  kept u h (Undoes code ts items m w at top same) = grind (arith, nat_tests)
  kept u h (Arrives code fr ts items at top same) = grind (arith, nat_tests, reported)
  kept u h (Comes_out code d ts items at top same) = subst (λ v. Holds l v.tasks) (sym same) (subst (λ ts. Holds l ts) at h).1.1
  kept u h (Ends d ts at same) = subst (λ v. Holds l v.tasks) (sym same) (ends d)

-- what is kept holds after each step
pub keeps : (p : Image) (c : Choice) (l : TaskLaw) (s u : State) → Kept p c l s → Holds l s.tasks → step p c s ≡ Goes u → Holds l u.tasks
keeps p c l s u k h e = kept p c l s k u h (steps_are_moves p c s u e)

-- a turn keeps it, where it holds of each method that is dispatched and of each destructor
pub turn_keeps_it : (p : Image) (outside : Environment) (observed : Observed) (l : TaskLaw) (s u : State) → ((m height : ℕ)
    (receiver : Receiver) (words : List (Option ℤ)) (d : Dispatch) → l.Runs (record (frame_of m receiver height) { words = words }) (Trapped ∷ Dispatched d ∷ [])) →
    ((d : Dispatch) → l.Stands (Dispatched d ∷ [])) → ((o : Object) (x m height : ℕ) (ts : List Task) → role_of p x Destruct ≡ Some m →
    l.Runs (destructor_frame p m o (length ts) height) (Destroy ∷ ts)) → Holds l s.tasks → turn p outside observed s ≡ Goes u → Holds l u.tasks
turn_keeps_it p outside observed l s u runs stands destructs h e = elim (turns_so p outside observed s u e) as (λ v d. Holds l v.tasks) [
  | keeps_all r ↦ h
  | completes code o r other ↦ h
  | kills n r k ↦ h
  | executes client command name ↦ subst (λ ts. Holds l ts) (sym (commanded_kept p client (observed_one s) command name).1) h
  | picks x v d ↦ elim d as (λ v d. Holds l v.tasks) [
    | handles m at ↦ (runs m (length (A_mark ∷ s.items)) (Inside x.object x.place) [] (Of_object x), (stands (Of_object x), tt))
    | accepts client m at ↦ (grind (arith, nat_tests, runs), (stands (Of_server x client Accepts), tt))
    | attends client message m o there at ↦ (grind (arith, nat_tests, runs), (stands (Of_server x client (Serves o)), tt))
    | parts client o there ↦ begun_holds p l destructs o (length s.items) (Dispatched (Of_server x client Disconnects) ∷ []) tt
  ]
]
