-- Each state that a machine stands for has agreement: from what the machine's numbers show, and from what the typing says of the methods at hand.
use Rattle.std.proofs.lemmas.Bool.Decides.{nat_tests}
use Rattle.std.proofs.lemmas.Option.{same_Some}
use Rattle.std.proofs.Common.{Bool, List, None, Option, Some, [], ap, arith, cond, false, length, refl, subst, sym, true, ℕ, ℤ, ◌++◌, ◌<◌, ◌==◌, ◌∙◌, ◌∷◌, ◌≡◌}
use Rattle.aom_machine.proofs.ImageLemmas.{false_given, none_given}
use Rattle.std.proofs.lemmas.Bool.{eq-eqb, eqb-true, ne_eqb}
use Rattle.std.specs.Prelude.{is_some}
use Rattle.aom_image.specs.Image.{Image}
use Rattle.aom_image.specs.declared.method.Thing.{Thing}
use Rattle.aom_abstract_state.specs.Kinds.{field, filled}
use Rattle.aom_abstract_state.specs.AbstractState.{AbstractState}
use Rattle.aom_roles.specs.Things.{Program, field_thing, holder_of}
use Rattle.aom_typing_rules.specs.Typing.{Typing, shape_at}
use Rattle.aom_abstract_state.specs.declared.kind.CleanupEntry.{CleanupEntry}
use Rattle.aom_abstract_state.specs.declared.kind.FieldState.{FieldState}
use Rattle.aom_abstract_state.specs.declared.kind.FieldState.TheVariants.{Empty, Perhaps}
use Rattle.aom_abstract_state.specs.declared.kind.Kind.{Kind}
use Rattle.aom_abstract_state.specs.declared.kind.Kind.TheVariants.{Null, Own}
use Rattle.aom_machine.proofs.SafetyLemmas.{claim_field, receiver_conforms_field, length_forms, method_layer}
use Rattle.aom_machine.proofs.SemanticsLemmas.{held_lives, one_place}
use Rattle.aom_safety.specs.Claims.{Dispatching, Dying, Ending, Layer, Mark, Mark_form, Method, Object_form, Unwinding, claim}
use Rattle.aom_safety.specs.Claims.{declared, declared_field, entry_claim, forms, receiver_claim, items_of, objects, own_field}
use Rattle.aom_semantics.specs.Owned.{over}
use Rattle.aom_semantics.specs.Places.{Cell, Elsewhere, Entry, Field, Object, Place, Register, Root, CellView, held, named, seen}
use Rattle.aom_semantics.specs.State.{An_object, AtRoot, Frame, Receiver, Inside, Item, Run, State}
use Rattle.aom_semantics.specs.State.{Static, Task, field_place, receiver_holder, thing_holder, word}
use Rattle.aom_safety.specs.WellTyped.{Back, Caught, Fits, Gone, ReceiverConforms, ReceiverIsHeld, Leaves, Now, Returns, Stack, Good}
use Rattle.aom_machine.specs.Agreement.{Agreement, AgreesInAll, FieldsAgree, NumberSays, RegistersAgree}
use Rattle.aom_machine_state.specs.Agrees.{Represents, number, word_at, word_in}
use Rattle.aom_machine_state.specs.Places.{value}
use Rattle.aom_machine_state.specs.Stands.{MachineModel, Refines}
use Rattle.aom_machine_state.specs.Waits.{AllWait, KindSays, OthersWait, Waits}
use Rattle.aom_machine.proofs.MachineInstructionsLemmas.{null_unnamed}
use Rattle.aom_machine.proofs.Waiting.{runs_typed}

-- ---- registers

number_says : (p : Image) (k : Kind) (n : ℕ) (w : Option ℤ) (o : Option Object) → KindSays p k w o → Represents n w o → NumberSays p k n o
number_says p x n w o says shows = grind arith

-- a method under other tasks waits
pub waits_under : (p : Image) (t : Typing) (cs : List Cell) (above : List Task) (fr : Frame) (below : List Task) → AllWait p t cs (above ++ Run fr ∷ below) →
    Waits p t cs (length below) fr
waits_under p t cs [] fr below w = w.0
waits_under p t cs (Run g ∷ above) fr below w = waits_under p t cs above fr below w.1
waits_under p t cs (_ ∷ above) fr below w = waits_under p t cs above fr below w

deeper : (above : List Task) (fr : Frame) (below : List Task) → length below < length (above ++ Run fr ∷ below)
deeper [] fr below = omega arith
deeper (task ∷ above) fr below = let rest = deeper above fr below in omega (arith, rest)

word_under : (above : List Task) (fr : Frame) (below : List Task) (i : ℕ) → word_in (above ++ Run fr ∷ below) (length below) i ≡ word fr i
word_under [] fr below i = ap (λ b. cond b (word fr i) (word_in below (length below) i)) (eq-eqb (length below) (length below) refl)
word_under (task ∷ above) fr below i = grind (arith, nat_tests, deeper above fr below, ne_eqb, word_under above fr below i)

-- ---- fields, the root and entries

-- what a field is declared to be says no more than what is known of it
declared_says : (p : Image) (h : CellView) (thing : Option Thing) (x : FieldState) (n : ℕ) (o : Option Object) → n ≡ number o → Fits p h o (filled thing x)
    → NumberSays p (filled thing Perhaps) n o
declared_says p h y x n z same fits = grind arith

-- and what is known of it says so
filled_says : (p : Image) (h : CellView) (t : Thing) (x : FieldState) (n : ℕ) (o : Option Object) → n ≡ number o → Fits p h o (filled (Some t) x) →
    NumberSays p (filled (Some t) x) n o
filled_says p h t x n y same fits = grind arith

empty_fits : (p : Image) (h : CellView) (thing : Option Thing) (o : Option Object) → Fits p h o Null → Fits p h o (filled thing Empty)
empty_fits p h x o fits = grind arith

module _ (p : Image) (t : Typing) (cs : List Cell) (n : ℕ) (o : Option Object) (same : n ≡ number o) where
  abbrev F : Kind → Type 0
  F k = Fits p (seen cs) o k

  abbrev Declared : Object → ℕ → Type 0
  Declared x f = NumberSays p (filled (field_thing p (thing_holder x.thing) f) Perhaps) n o

  abbrev RootDeclared : Type 0
  RootDeclared = NumberSays p (filled (field_thing p Program 0) Perhaps) n o

  field_says : (x : Object) (f : ℕ) → named cs x.name ≡ Some x → (ls : List Layer) (back : Back) → Stack p t cs back ls →
      F (claim p (declared p cs) ls (Field x.name f)) → Declared x f
  field_says x f lives [] back st fits =
      declared_says p (seen cs) (field_thing p (thing_holder x.thing) f) Perhaps n o same (subst (λ y. F (declared_field p y f)) lives fits)
  field_says x f lives (Method fr sh ∷ ls) back st fits = go fr.receiver st.1.holder st.2 (field_says x f lives ls (Returns fr.method fr.receiver) st.4) fits
    where
      go : (receiver : Receiver) → ReceiverConforms p (receiver_holder receiver) (holder_of p fr.method) → ReceiverIsHeld p cs ls receiver → (F (claim p (declared p cs) ls (Field x.name f)) →
          Declared x f) → F (receiver_claim p (holder_of p fr.method) receiver sh x.name f (claim p (declared p cs) ls (Field x.name f))) → Declared x f
      go Static receiver_conforms receiver_held below fits = below fits
      go AtRoot receiver_conforms receiver_held below fits = below fits
      go (Inside y from) receiver_conforms receiver_held below fits = inside (y.name == x.name) refl (field_thing p (holder_of p fr.method) f) refl fits
        where
          inside : (b : Bool) → (y.name == x.name) ≡ b → (own : Option Thing) → field_thing p (holder_of p fr.method) f ≡ own →
              F (cond b (own_field own (field sh f) (claim p (declared p cs) ls (Field x.name f))) (claim p (declared p cs) ls (Field x.name f))) → Declared x f
          inside true e None is fits = below fits
          inside true e (Some z) is fits =
              let alike : y ≡ x = same_Some y x (sym receiver_held.lives ∙ ap (λ k. named cs k) (eqb-true y.name x.name e) ∙ lives) in
              declared_says p (seen cs) (field_thing p (thing_holder x.thing) f) (field sh f) n o same (subst (λ (z : Object). F
              (filled (field_thing p (thing_holder z.thing) f) (field sh f))) alike (subst (λ k. F (filled k (field sh f))) (sym (receiver_conforms.fields f z is)) fits))
          inside false e own is fits = below fits
  field_says x f lives (Mark gv ∷ ls) back st fits = field_says x f lives ls (Caught gv) st.1 fits
  field_says x f lives (Unwinding code es ∷ ls) back st fits = field_says x f lives ls Leaves st.1 fits
  field_says x f lives (Dispatching d owned_chain ∷ ls) back st fits = grind (arith, nat_tests, declared_says p)
  field_says x f lives (Dying y ∷ ls) back st fits = grind (arith, nat_tests, field_says x f lives ls Gone st.2, declared_says p, empty_fits p)
  field_says x f lives (Ending y left ∷ ls) back st fits =
      grind (arith, nat_tests, field_says x f lives ls Now st.3, same_Some y x, eqb-true y.name x.name, declared_says p)

  root_says : (ls : List Layer) → F (claim p (declared p cs) ls (Elsewhere Root)) → RootDeclared
  root_says [] fits = declared_says p (seen cs) (field_thing p Program 0) Perhaps n o same fits
  root_says (Method fr sh ∷ ls) fits = grind (arith, nat_tests, root_says ls, declared_says p)
  root_says (Dispatching d owned_chain ∷ ls) fits = grind (arith, nat_tests, root_says ls, declared_says p, empty_fits p)
  root_says (_ ∷ ls) fits = root_says ls fits

-- an object's item is claimed to own
abbrev IsOwn : Kind → Type 0
IsOwn (Own t a) = Unit {0}
IsOwn _ = ⊥

owns_one : (p : Image) (h : CellView) (k : Kind) (o : Option Object) → IsOwn k → Fits p h o k → (x : Object) × (o ≡ Some x)
owns_one p h x y own fits = grind arith

over_forms : (items : List Item) (k : ℕ) → over items k ≡ Some An_object → over (forms items) k ≡ Some Object_form
over_forms [] k e = cc
over_forms (i ∷ items) k e = grind (arith, nat_tests, over_forms items k, length_forms items)

module _ (p : Image) (d : Place → Kind) (k : ℕ) where
  abbrev ClaimedOwn : List Layer → Type 0
  ClaimedOwn ls = over (items_of ls) k ≡ Some Object_form → IsOwn (claim p d ls (Entry k))

  pushed_own : (es : List CleanupEntry) (ls : List Layer) → ClaimedOwn ls → over (objects es (items_of ls)) k ≡ Some Object_form →
      IsOwn (entry_claim es (items_of ls) k (claim p d ls (Entry k)))
  pushed_own [] ls below e = below e
  pushed_own (x ∷ es) ls below e = grind (arith, nat_tests, pushed_own es ls below)

  entries_own : (ls : List Layer) → ClaimedOwn ls
  entries_own [] e = cc
  entries_own (Method fr sh ∷ ls) e = pushed_own sh.entries ls (entries_own ls) e
  entries_own (Unwinding code es ∷ ls) e = pushed_own es ls (entries_own ls) e
  entries_own (Mark gv ∷ ls) e = let below : ClaimedOwn ls = entries_own ls in
      false_given (λ b. cond b (Some Mark_form) (over (items_of ls) k) ≡ Some Object_form) (length (items_of ls) == k) e (λ e. cc) (λ _ e. below e)
  entries_own (_ ∷ ls) e = entries_own ls e

-- ---- all together

module _ (m : MachineModel) (s : State) (st : Refines m s) where
  abbrev p : Image
  p = m.image

  -- a place of no words shows its object's number
  plain : (r : Place) → word_at s.tasks r ≡ None → value m.parts r ≡ number (held s.cells r)
  plain r none = subst (λ w. Represents (value m.parts r) w (held s.cells r)) none (st.agrees.values r)

  owner_shows : (r : Place) (x : Object) → held s.cells r ≡ Some x → (word_at s.tasks r ≡ None) × (value m.parts r ≡ x.name)
  owner_shows r x holds = none_given (λ w. Represents (value m.parts r) w (Some x)) (word_at s.tasks r)
      (subst (λ o. Represents (value m.parts r) (word_at s.tasks r) o) holds (st.agrees.values r)) (λ w shows. shows) (λ e shows. (e, shows))

  shows_owner : (r : Place) (x : Object) → named s.cells x.name ≡ Some x → word_at s.tasks r ≡ None → value m.parts r ≡ x.name → held s.cells r ≡ Some x
  shows_owner r x lives none is = go (held s.cells r) refl (sym is ∙ plain r none)
    where
      go : (o : Option Object) → held s.cells r ≡ o → x.name ≡ number o → o ≡ Some x
      go None holds e = let nobody = null_unnamed p m.parts s st.agrees in let clash : Some x ≡ None = sym lives ∙ ap (λ n. named s.cells n) e ∙ nobody in cc
      go (Some y) holds e = sym (held_lives s.cells r y st.typed.good.no_duplicates holds) ∙ ap (λ n. named s.cells n) (sym e) ∙ lives

  shown : (above : List Task) (fr : Frame) (below : List Task) → s.tasks ≡ above ++ Run fr ∷ below → (i : ℕ)
      → Represents (value m.parts (Register (length below) i)) (word fr i) (held s.cells (Register (length below) i))
  shown above fr below top i = grind (arith, nat_tests, word_under above fr below i)

  registers_agree : (above : List Task) (fr : Frame) (below : List Task) → s.tasks ≡ above ++ Run fr ∷ below →
      RegistersAgree p st.typing m.parts s above fr (length below)
  registers_agree [] fr below top =
      let h = runs_typed p st.typing s fr below st.typed top in
      record { shape = h.shape; typed = h.typed; registers = λ i. number_says p _ _ _ _ (h.says i) (shown [] fr below top i) }
  registers_agree (task ∷ above) fr below top =
      let w = waits_under p st.typing s.cells above fr below (subst (λ us. OthersWait p st.typing s.cells us) top st.waits) in
      record { shape = w.shape; typed = w.typed; registers = λ i. number_says p _ _ _ _ (w.says i) (shown (task ∷ above) fr below top i) }

  own_fields_agree : (fr : Frame) (below : List Task) → s.tasks ≡ Run fr ∷ below → FieldsAgree p st.typing m.parts s fr
  own_fields_agree fr below top = method_layer (λ ls. Good p st.typing s.cells ls) fr below st.typed.layers
      (sym st.typed.tasks ∙ top) st.typed.good (λ sh ls _ good. (by_frame fr sh ls good.stack.0 good))
    where
      no_word_there : (receiver : Receiver) (f : ℕ) → word_at s.tasks (field_place receiver f) ≡ None
      no_word_there Static f = refl
      no_word_there AtRoot f = refl
      no_word_there (Inside o from) f = refl

      by_frame : (g : Frame) (sh : AbstractState) (ls : List Layer) → shape_at st.typing g.method g.place ≡ Some sh → Good p st.typing s.cells (Method g sh ∷ ls) →
          FieldsAgree p st.typing m.parts s g
      by_frame g sh ls there good = record {
        shape = sh;
        typed = there;
        fields = λ f thing declares.
            let q = field_place g.receiver f in
            let own = receiver_conforms_field p _ _ f good.stack.1.holder (ap is_some declares) ∙ declares in
            let claims = claim_field p (declared p s.cells) g sh ls g.receiver f refl (own ∙ sym declares) (ap is_some own) ∙ ap (λ x. filled x (field sh f)) own in
            filled_says p (seen s.cells) thing (field sh f) (value m.parts q) (held s.cells q) (plain q (no_word_there g.receiver f))
            (subst (λ k. Fits p (seen s.cells) (held s.cells q) k) claims (good.fits q));
      }

  pub agreement : Agreement m s
  agreement = record {
    typing = st.typing;
    strongest = st.sound.strongest;
    owners = λ r x lives. (owner_shows r x, λ is. shows_owner r x lives is.0 is.1);
    once = λ q r x lives none none' is is'. one_place s.cells q r x x st.typed.good.no_duplicates (shows_owner q x lives none is) (shows_owner r x lives none' is') refl;
    registers = registers_agree;
    own_fields = own_fields_agree;
    fields = grind (arith, nat_tests, field_says, plain);
    root = root_says p st.typing s.cells (value m.parts (Elsewhere Root)) (held s.cells (Elsewhere Root)) (plain (Elsewhere Root) refl) st.typed.layers
        (st.typed.good.fits (Elsewhere Root));
    entries = λ k object.
        let own = entries_own p (declared p s.cells) k st.typed.layers (ap (λ fs. over fs k) (sym st.typed.items) ∙ over_forms s.items k object) in
        let x = owns_one p (seen s.cells) _ _ own (st.typed.good.fits (Entry k)) in
        (x.0, x.1, (owner_shows (Entry k) x.0 x.1).1);
  }

pub agrees_in_all : (m : MachineModel) → AgreesInAll m
agrees_in_all m s st = agreement m s st
