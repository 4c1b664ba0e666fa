-- While a leave is at hand, the methods and the going cells over it leave the cleanup stack as it is: by the heights at which the methods began.
use Rattle.std.proofs.lemmas.Bool.Decides.{nat_tests}
use Rattle.aom_image.specs.declared.method.Role.TheVariants.{Destruct}
use Rattle.aom_safety.proofs.RolesLemmas.{itself}
use Rattle.std.proofs.lemmas.Option.{same_Some}
use Rattle.std.proofs.Common.{[], List, None, Option, Some, ap, arith, length, refl, subst, sym, true, ℕ, ℤ, ◌∙◌, ◌∷◌, ◌≡◌, ◌≢◌}
use Rattle.std.proofs.lemmas.Bool.{true≢false}
use Rattle.std.specs.Prelude.{not}
use Rattle.aom_image.specs.Image.{Image}
use Rattle.aom_image.specs.Views.{method_class}
use Rattle.aom_instructions.specs.declared.instr.Instr.{Instr}
use Rattle.aom_roles.specs.Tests.{AllTrue}
use Rattle.aom_roles.specs.Families.{parent_by}
use Rattle.aom_abstract_state.specs.Kinds.{no_entry}
use Rattle.aom_typing_rules.specs.Rules.{rule_needs}
use Rattle.aom_abstract_state.specs.AbstractState.{AbstractState}
use Rattle.aom_typing_rules.specs.Typing.{IsTyped, Typing, shape_at}
use Rattle.aom_abstract_state.specs.declared.kind.CleanupEntry.{CleanupEntry}
use Rattle.aom_safety.proofs.Callees.{cancel_quiet, only_then}
use Rattle.aom_safety.proofs.Overriders.{body_quiet}
use Rattle.aom_safety.proofs.Claimed.{length_objects}
use Rattle.aom_safety.proofs.Destroying.{destroys_by, destroys}
use Rattle.aom_safety.proofs.Finishing.{all_parts}
use Rattle.aom_safety.proofs.Items.{length_forms}
use Rattle.aom_safety.proofs.Moving.{steps_are_moves}
use Rattle.aom_safety.proofs.Preserving.{receives}
use Rattle.aom_safety.specs.Claims.{Form, Layer, Method, forms, items_of, objects, tasks_of}
use Rattle.aom_semantics.specs.Cleanup.{has_trap}
use Rattle.aom_link_conditions.specs.Roles.{role_of}
use Rattle.aom_semantics.specs.Destruction.{class_destructor, line_on, destructed, begun, begun_by}
use Rattle.aom_semantics.specs.Effects.{Effect, Update, applied, items_after}
use Rattle.aom_safety.specs.Laws.{IsWired}
use Rattle.aom_safety.specs.Leaves.{IsLeaving, IsOver}
use Rattle.aom_semantics.specs.Moves.{counted, step}
use Rattle.aom_semantics.specs.Places.{Cell, Object}
use Rattle.aom_semantics.specs.State.{Static, Inside, AtRoot, Receiver, Choice, Frame, Goes, Item, Run, State, Task, Unwind}
use Rattle.aom_safety.specs.Steps.{Empties, Acts, Arrives, Clears, Comes_out, Ends, Fits, FitsUpdate, Move, Rests, Undoes, Reclaims}
use Rattle.aom_safety.specs.WellTyped.{Good, WellTyped}

-- a leave that is begun over it finds no trap
no_trap : (p : Image) (height : ℕ) (code : ℤ) (below ts : List Task) → IsOver p height code below ts → has_trap ts ≡ true → ⊥
no_trap p height code below (Run fr ∷ ts) o e = no_trap p height code below ts o.2 e
no_trap p height code below x o e = grind arith

-- a destruction begins over it
destructs_over : (p : Image) → IsWired p → (o : Object) (height : ℕ) (code : ℤ) (below ts : List Task) → IsOver p height code below ts →
    IsOver p height code below (destructed p o height ts)
destructs_over p wired o height code below ts h = grind (arith, nat_tests, destroys p wired o.thing)

-- and the next of its line
line_over : (p : Image) → IsWired p → (m : ℕ) (receiver : Receiver) (height : ℕ) (code : ℤ) (below ts : List Task) →
    IsOver p height code below ts → IsOver p height code below (line_on p m receiver height ts)
line_over p wired m Static height code below ts h = h
line_over p wired m AtRoot height code below ts h = h
line_over p wired m (Inside o from) height code below ts h = go (parent_by p (method_class p m))
  where
    of_role : (x : ℕ) (d : Option ℕ) → role_of p x Destruct ≡ d → IsOver p height code below (begun_by p d o height ts)
    of_role x None e = h
    of_role x (Some k) e = ((destroys_by p wired x x k (itself p x) e).quiet, refl, h)

    go : (x : Option ℕ) → IsOver p height code below (begun_by p (class_destructor p x) o height ts)
    go None = h
    go (Some x) = of_role x (role_of p x Destruct) refl

pub begins_over : (p : Image) → IsWired p → (o : Object) (height : ℕ) (code : ℤ) (below ts : List Task) → IsOver p height code below ts →
    IsOver p height code below (begun p o height ts)
begins_over p wired o height code below ts h = grind (arith, nat_tests, destructs_over p wired o height code below ts h)

-- a method that stands at the height at which it began has no entry
no_entries : (es : List CleanupEntry) (below : List Form) → length (objects es below) ≡ length below → es ≡ []
no_entries [] below e = refl
no_entries (x ∷ es) below e = absurd (omega (arith, e, length_objects es below))

bare_shape : (p : Image) (t : Typing) (cs : List Cell) (fr : Frame) (ts : List Task) (items : List Item) (ls : List Layer) → Run fr ∷ ts ≡ tasks_of ls →
    forms items ≡ items_of ls → fr.height ≡ length items → Good p t cs ls → (sh : AbstractState) × (shape_at t fr.method fr.place ≡ Some sh) × (sh.entries ≡ [])
bare_shape p t cs fr ts items (Method fr' sh ∷ ls) at f h good = grind (arith, nat_tests, length_forms items, no_entries sh.entries)
bare_shape p t cs fr ts items _ at f h good = cc

-- a method's move
module _ (p : Image) (wired : IsWired p) (c : Choice) (fr : Frame) (sh : AbstractState) (ts : List Task) (s : State)
    (has_task : s.tasks ≡ Run fr ∷ ts) (code : ℤ) (below : List Task) (h : IsOver p (length s.items) code below (Run fr ∷ ts)) (bare : sh.entries ≡ []) where
  abbrev Kept : State → Type 0
  Kept u = IsOver p (length s.items) code below u.tasks × (u.items ≡ s.items)

  abbrev Ruled : Instr → Type 0
  Ruled i = AllTrue (rule_needs p fr.method fr.place sh i)

  no_entry_there : not (no_entry sh.entries) ≡ true → ⊥
  no_entry_there e = true≢false (sym e ∙ ap (λ es. not (no_entry es)) bare)

  -- neither pushed nor taken
  same_items : (i : Instr) (u : Update) → Ruled i → FitsUpdate ts s.items i u → items_after u s.items ≡ s.items
  same_items i x r f = grind (arith, nat_tests, no_trap p, no_entry_there)

  -- a quiet method calls quiet ones
  acts_kept : (i : Instr) (e : Effect) → Ruled i → Fits p c fr ts s i e → Kept (applied p fr ts s e)
  acts_kept i x r f =
      grind (arith, nat_tests, same_items, body_quiet, all_parts, only_then, cancel_quiet, receives, line_over, no_trap, begins_over, no_entry_there)

module _ (p : Image) (t : Typing) (wired : IsWired p) (typed : IsTyped p t) (c : Choice) (s u : State) (w : WellTyped p t s) (code : ℤ) (below : List Task)
    (over : IsOver p (length s.items) code below s.tasks) (other : s.tasks ≡ Unwind code ∷ below → ⊥) where
  abbrev Stays : State → Type 0
  Stays v = IsOver p (length s.items) code below v.tasks × (v.items ≡ s.items)

  abbrev O : List Task → Type 0
  O ts = IsOver p (length s.items) code below ts

  at_leave : (x : ℤ) (ts : List Task) → s.tasks ≡ Unwind x ∷ ts → ⊥
  at_leave x ts at = let o = subst O at over in other (at ∙ ap (λ y. Unwind y ∷ ts) o.0 ∙ ap (λ l. Unwind code ∷ l) o.1)

  -- a server that goes over it has its sessions go first
  kept : Move p c s u → Stays u
  kept (Rests still e) = subst Stays (sym e) (over, refl)
  kept (Acts fr ts i e at there met fits same) =
      let h = subst O at over in
      let stands = bare_shape p t s.cells fr ts s.items w.layers (sym at ∙ w.tasks) w.items h.1 w.good in
      let x = typed.each fr.method fr.place stands.0 stands.1 in
      let is : x.instr ≡ i = same_Some x.instr i (sym x.stands ∙ there) in
      subst Stays (sym same) (acts_kept p wired c fr stands.0 ts (counted p s) at code below h stands.2 i e (rw is at x.needs) fits)
  kept (Reclaims ts o at there owns same) = subst Stays (sym same) (grind arith, refl)
  kept (Empties ts o at there same) = grind (arith, nat_tests, destructs_over, begins_over)
  kept (Clears x ts items o at top there same) = absurd (at_leave x ts at)
  kept (Undoes x ts items m y at top same) = absurd (at_leave x ts at)
  kept (Arrives x fr ts items at top same) = absurd (at_leave x _ at)
  kept (Comes_out x d ts items at top same) = absurd (at_leave x _ at)
  kept (Ends d ts at same) = absurd (subst O at over)

-- with the same entries left
pub works_kept : (p : Image) (t : Typing) →
    IsWired p → IsTyped p t → (c : Choice) (s u : State) → WellTyped p t s → (code : ℤ) (below : List Task) (entries items : List Item) →
    IsLeaving p code below entries items s → s.tasks ≢ Unwind code ∷ below → step p c s ≡ Goes u → IsLeaving p code below entries items u × (u.items ≡ s.items)
works_kept p t wired typed c s u w code below entries items l other e =
    let r = kept p t wired typed c s u w code below l.over other (steps_are_moves p c s u e) in (
      record { over = subst (λ is. IsOver p (length is) code below u.tasks) (sym r.1) r.0; stack = r.1 ∙ l.stack; plain = l.plain },
      r.1,
    )
