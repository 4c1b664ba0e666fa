-- What the room of a well-typed state rests on: where the methods at hand began, and what the one that runs has pushed.
use Rattle.std.proofs.lemmas.Bool.Decides.{nat_tests}
use Rattle.std.proofs.Common.{List, None, Some, [], ap, arith, length, refl, subst, suc, sym, ℕ, ℤ, ◌+◌, ◌-◌, ◌∙◌, ◌∷◌, ◌≡◌, ◌≤◌}
use Rattle.aom_image.specs.Image.{Image}
use Rattle.aom_abstract_state.specs.Kinds.{register}
use Rattle.aom_abstract_state.specs.AbstractState.{AbstractState}
use Rattle.aom_typing_rules.specs.Typing.{Typing, shape_at}
use Rattle.aom_abstract_state.specs.declared.kind.CleanupEntry.{CleanupEntry}
use Rattle.aom_abstract_state.specs.declared.kind.CleanupEntry.TheVariants.{Object as Pushed_object, Operation as Pushed_operation}
use Rattle.aom_abstract_state.specs.declared.kind.Kind.TheVariants.{Null}
use Rattle.aom_machine_state.proofs.SafetyLemmas.{claim_entry_above, fits_unowning, leave_layer, length_forms, length_objects, method_layer, register_fits}
use Rattle.aom_safety.specs.Claims.{Dispatching, Dying, Ending, Form, Layer, Mark, Method, Unwinding, forms, items_of, objects, tasks_of}
use Rattle.aom_semantics.specs.Places.{Cell, Entry, Register, held, seen}
use Rattle.aom_semantics.specs.State.{An_object, An_operation, Frame, Item, Run, State, Task, Trapped, Unwind, receiver_holder}
use Rattle.aom_safety.specs.WellTyped.{ReceiverConforms, Back, Caught, Fits, Gone, Good, CountsAs, Leaves, Now, Returns, Stack, WellTyped}
use Rattle.aom_machine_state.specs.Room.{below_height, entries_in}
use Rattle.aom_machine_state.proofs.Depths.{AllLow, below_all, below_pushed}
use Rattle.aom_roles.specs.Things.{holder_of}

-- each method at hand began within the items of its layers
low_stack : (p : Image) (t : Typing) (cs : List Cell) (back : Back) (ls : List Layer) (n : ℕ) → Stack p t cs back ls →
    length (items_of ls) ≤ n → AllLow n (tasks_of ls)
low_stack p t cs back [] n s le = tt
low_stack p t cs back (Method fr sh ∷ ls) n s le = grind (arith, nat_tests, length_objects sh.entries, low_stack p t cs (Returns fr.method fr.receiver) ls n s.4)
low_stack p t cs back (Mark gv ∷ ls) n s le = low_stack p t cs (Caught gv) ls n s.1 (omega (arith, le))
low_stack p t cs back (Dying o ∷ ls) n s le = low_stack p t cs Gone ls n s.2 le
low_stack p t cs back (Ending o left ∷ ls) n s le = low_stack p t cs Now ls n s.3 le
low_stack p t cs back (Unwinding code es ∷ ls) n s le = low_stack p t cs Leaves ls n s.1 (omega (arith, length_objects es (items_of ls), le))
low_stack p t cs back (Dispatching d owned_chain ∷ ls) n s le = subst (λ us. AllLow n (tasks_of us)) (sym s.1) tt

-- under a trap the methods began where its mark was not there yet
abbrev pub LowUnder : ℕ → List Task → Type 0
LowUnder n [] = Unit {0}
LowUnder n (Trapped ∷ ts) = AllLow (n - 1) ts
LowUnder n (_ ∷ ts) = Unit {0}

low_under : (p : Image) (t : Typing) (cs : List Cell) (back : Back) (ls : List Layer) → Stack p t cs back ls → LowUnder (length (items_of ls)) (tasks_of ls)
low_under p t cs back (Mark gv ∷ ls) s = low_stack p t cs (Caught gv) ls (suc (length (items_of ls)) - 1) s.1 (omega arith)
low_under p t cs back _ s = tt

-- what is known where a method runs
pub record Stands_here (p : Image) (t : Typing) (s : State) (fr : Frame) (ts : List Task) : Type 0 where
  pub shape : AbstractState
  pub below : List Form
  pub there : shape_at t fr.method fr.place ≡ Some shape
  pub items : forms s.items ≡ objects shape.entries below
  pub height : fr.height ≡ length below
  pub holder : ReceiverConforms p (receiver_holder fr.receiver) (holder_of p fr.method)
  pub view : CountsAs p (receiver_holder fr.receiver) fr.view (holder_of p fr.method)
  pub low : AllLow fr.height ts
  pub low_under : LowUnder fr.height ts
  pub fits : (a : ℕ) → Fits p (seen s.cells) (held s.cells (Register (length ts) a)) (register shape a)
  pub free : held s.cells (Entry (length s.items)) ≡ None

pub stands_here : (p : Image) (t : Typing) (s : State) (fr : Frame) (ts : List Task) → WellTyped p t s → s.tasks ≡ Run fr ∷ ts → Stands_here p t s fr ts
stands_here p t s fr ts w at =
    method_layer (λ ls. (forms s.items ≡ items_of ls) × (Good p t s.cells ls)) fr ts w.layers (sym w.tasks ∙ at) (w.items, w.good) (λ sh ls under h.
    let high : fr.height ≡ length (items_of ls) = h.1.stack.1.height in
    let deep : length s.items ≡ length (items_of (Method fr sh ∷ ls)) = sym (length_forms s.items) ∙ ap length h.0 in
    let none = claim_entry_above p s.cells (Method fr sh ∷ ls) (length s.items) (omega (arith, deep)) in
    record {
      shape = sh;
      below = items_of ls;
      there = h.1.stack.0;
      items = h.0;
      height = high;
      holder = h.1.stack.1.holder;
      view = h.1.stack.1.view;
      low = subst (λ us. AllLow fr.height us) under (low_stack p t s.cells (Returns fr.method fr.receiver) ls fr.height h.1.stack.4 (omega (arith, high)));
      low_under = grind (arith, nat_tests, low_under p t s.cells (Returns fr.method fr.receiver) ls h.1.stack.4);
      fits = λ a. subst (λ us. Fits p (seen s.cells) (held s.cells (Register (length us) a)) (register sh a)) under (register_fits p s.cells fr sh ls h.1.fits a);
      free = fits_unowning p (seen s.cells) _ Null refl
          (subst (λ k. Fits p (seen s.cells) (held s.cells (Entry (length s.items))) k) none (h.1.fits (Entry (length s.items))));
    })

-- the items over a height are a method's own entries
one_more : (es : List CleanupEntry) (below : List Form) (i : Item) (items : List Item) → entries_in (i ∷ items) ≡ suc (entries_in items) →
    forms items ≡ objects es below → entries_in items ≡ length es + entries_in (below_height (length below) items) →
    entries_in (i ∷ items) ≡ suc (length es) + entries_in (below_height (length below) (i ∷ items))
one_more es below i items one same h = grind (arith, nat_tests, below_pushed, below, items, length_forms items, length_objects es below)

pub own_entries : (es : List CleanupEntry) (below : List Form) (items : List Item) → forms items ≡ objects es below →
    entries_in items ≡ length es + entries_in (below_height (length below) items)
own_entries [] below items e = grind (arith, nat_tests, below_all, below, items, length_forms items)
own_entries (Pushed_object c a ∷ es) below (An_object ∷ items) e =
    let same : forms items ≡ objects es below = cc in
    one_more es below An_object items (omega arith) same (own_entries es below items same)
own_entries (Pushed_operation ∷ es) below (An_operation m w ∷ items) e =
    let same : forms items ≡ objects es below = cc in
    one_more es below (An_operation m w) items (omega arith) same (own_entries es below items same)
own_entries _ below _ e = cc

-- what a leave has still to unwind lies over its trap's mark
left_over : (p : Image) (t : Typing) (cs : List Cell) (es : List CleanupEntry) (ls : List Layer) (i : Item) (items : List Item) →
    Stack p t cs Leaves ls → forms (i ∷ items) ≡ objects es (items_of ls) → AllLow (length items) (tasks_of ls)
left_over p t cs (e ∷ es) ls i items s same =
    let rest : forms items ≡ objects es (items_of ls) = cc in
    low_stack p t cs Leaves ls (length items) s (omega (arith, length_forms items, ap length rest, length_objects es (items_of ls)))
left_over p t cs [] (Mark gv ∷ ls) i items s same =
    let rest : forms items ≡ items_of ls = cc in
    low_stack p t cs (Caught gv) ls (length items) s.1 (omega (arith, length_forms items, ap length rest))
left_over p t cs _ _ i items s same = absurd (first_of (assumption tt, cc))

pub low_unwinding : (p : Image) (t : Typing) (s : State) (code : ℤ) (ts : List Task) (i : Item) (items : List Item) →
    WellTyped p t s → s.tasks ≡ Unwind code ∷ ts → s.items ≡ i ∷ items → AllLow (length items) ts
low_unwinding p t s code ts i items w at top =
    leave_layer (λ ls. (forms (i ∷ items) ≡ items_of ls) × (Stack p t s.cells Now ls)) code ts w.layers (sym w.tasks ∙ at)
    (ap forms (sym top) ∙ w.items, w.good.stack) (λ es ls under h. subst (λ us. AllLow (length items) us) under (left_over p t s.cells es ls i items h.1.1 h.0))
