-- A method is about to return: nothing but its result is owned, its entries are gone, and the layers below claim the rest.
use Rattle.std.proofs.lemmas.Bool.Decides.{nat_tests}
use Rattle.std.proofs.Common.{Bool, IsTrue, List, None, Option, Some, [], ap, arith, cond, false, inl, inr, length}
use Rattle.std.proofs.Common.{refl, subst, suc, sym, true, zero, ℕ, ◌&&◌, ◌++◌, ◌==◌, ◌∙◌, ◌∷◌, ◌≡◌}
use Rattle.std.proofs.lemmas.Bool.{and_from, and_parts, cases_Bool, eq-eqb, eqb-true, true≢false}
use Rattle.std.specs.Prelude.{is_some, not, ◌++◌}
use Rattle.aom_image.specs.Image.{Image}
use Rattle.aom_image.specs.Views.{gives_of, has, method_role}
use Rattle.aom_image.specs.declared.method.Gives.{Gives}
use Rattle.aom_image.specs.declared.method.Gives.TheVariants.{Maybe as A_maybe, Nothing, Own as An_own}
use Rattle.aom_image.specs.declared.method.Thing.{Thing}
use Rattle.aom_image.specs.declared.method.Thing.TheVariants.{Object as An_object_of}
use Rattle.aom_typing_rules.specs.Calls.{entries_done, fields_done, is_destructor, leaves_one, result_moved, rule_ended, rule_left, rule_result, rule_return}
use Rattle.aom_abstract_state.specs.Kinds.{is_here, field, filled, is_unowning, no_entry, none_owns}
use Rattle.aom_abstract_state.specs.AbstractState.{AbstractState}
use Rattle.aom_roles.specs.Tables.{at}
use Rattle.aom_roles.specs.Things.{field_thing, holder_of, is_subtype}
use Rattle.aom_typing_rules.specs.Typing.{Typing}
use Rattle.aom_abstract_state.specs.declared.kind.InitState.TheVariants.{Fresh, Ready}
use Rattle.aom_abstract_state.specs.declared.kind.CleanupEntry.{CleanupEntry}
use Rattle.aom_abstract_state.specs.declared.kind.CleanupEntry.TheVariants.{Object as Pushed_object, Operation as Pushed_operation}
use Rattle.aom_abstract_state.specs.declared.kind.FieldState.{FieldState}
use Rattle.aom_abstract_state.specs.declared.kind.FieldState.TheVariants.{Perhaps}
use Rattle.aom_abstract_state.specs.declared.kind.Kind.{Kind}
use Rattle.aom_abstract_state.specs.declared.kind.Kind.TheVariants.{Null, Own, Unset}
use Rattle.aom_safety.proofs.Claimed.{claim_in_view, claim_register_above}
use Rattle.aom_safety.proofs.Destroying.{eqb_comm}
use Rattle.aom_safety.proofs.Items.{length_forms}
use Rattle.aom_safety.proofs.SemanticsLemmas.{at-set_extending, front_free}
use Rattle.aom_safety.proofs.Straight.{At, fits_unowning, free_register, top}
use Rattle.aom_semantics.specs.Calls.{end_needs, is_level, is_register_but, leaves_object, needs_return, none_owns_but, result_needs, result_source, returned}
use Rattle.aom_safety.specs.Claims.{own_field, serves, delivered, Dispatching, Layer, Method, Object_form, claim}
use Rattle.aom_safety.specs.Claims.{declared, declared_field, entry_claim, forms, receiver_claim, items_of, objects, tasks_of}
use Rattle.aom_semantics.specs.Effects.{Returns, applied}
use Rattle.aom_semantics.specs.Objects.{is_thing}
use Rattle.aom_semantics.specs.Places.{In_service, Cell, Elsewhere, Entry, Field, Object, Place, Register, Root, CellView, held, requested, same_place, seen}
use Rattle.aom_semantics.specs.State.{receiver_holder, An_object, AtRoot, Choice, Frame, Receiver, Inside, Item, State, Static, thing_holder}
use Rattle.aom_safety.specs.WellTyped.{InView, CountsAs, Fits, ReceiverConforms, IsApart, ReceiverIsHeld, RootUnclaimed, WellTyped, past_going}
use Rattle.aom_typing_rules.specs.Requests.{unissued}
use Rattle.aom_abstract_state.specs.Arguments.{after_of}
use Rattle.aom_semantics.specs.Requests.{hangs, own_request, pending, status_of}
use Rattle.aom_roles.specs.States.{cancel_done}
use Rattle.std.specs.Ordering.{int_eq}
use Rattle.aom_roles.specs.Roles.{is_cancel}
use Rattle.aom_roles.specs.Tests.{AllTrue, only_if}
use Rattle.aom_safety.specs.Requests.{Known, ConformsTo, known_at, states_claim, thing_kind, works_at}
use Rattle.aom_safety.proofs.ConformingTo.{completed}
use Rattle.aom_abstract_state.specs.declared.kind.MessageState.TheVariants.{Gone}
use Rattle.aom_safety.proofs.RolesLemmas.{stands_along}

pub none_owns_at : (ks : List Kind) (i : ℕ) → none_owns ks ≡ true → is_unowning (at Unset ks i) ≡ true
none_owns_at [] i e = refl
none_owns_at (k ∷ ks) zero e = (and_parts _ _ e).0
none_owns_at (k ∷ ks) (suc i) e = none_owns_at ks i (and_parts _ _ e).1

pub no_entries : (es : List CleanupEntry) → no_entry es ≡ true → es ≡ []
no_entries x e = grind arith

-- needs in two parts
pub all_parts : {W : Type 0} (xs ys : List (Bool × W)) → AllTrue (xs ++ ys) → AllTrue xs × AllTrue ys
all_parts [] ys h = (tt, h)
all_parts (x ∷ xs) ys h = let r = all_parts xs ys h.1 in ((h.0, r.0), r.1)

pub all_join : {W : Type 0} (xs ys : List (Bool × W)) → AllTrue xs → AllTrue ys → AllTrue (xs ++ ys)
all_join [] ys h g = g
all_join (x ∷ xs) ys h g = (h.0, all_join xs ys h.1 g)

-- the register of the result is spared
abbrev pub spares : Option ℕ → ℕ → Bool
spares None i = false
spares (Some a) i = i == a

pub none_owns_from : (cs : List Cell) (d : ℕ) (spared : Option ℕ) → ((i : ℕ) → spares spared i ≡ false → held cs (Register d i) ≡ None) →
    none_owns_but cs d spared ≡ true
none_owns_from [] d spared h = refl
none_owns_from (c ∷ cs) d spared h = and_from _ _ (go spared c.owner h) (none_owns_from cs d spared (λ i n. (front_free _ _ _ (h i n)).1))
  where
    here : (f j : ℕ) → (f == d) ≡ true → cond (same_place (Register f j) (Register d j)) (Some c.object) (held cs (Register d j)) ≡ None → ⊥
    here f j e h = true≢false (sym (ap (λ b. b && (j == j)) e ∙ eq-eqb j j refl) ∙ (front_free _ _ _ h).0)

    go : (spared : Option ℕ) (r : Place) → ((i : ℕ) →
        spares spared i ≡ false → cond (same_place r (Register d i)) (Some c.object) (held cs (Register d i)) ≡ None) → not (is_register_but d spared r) ≡ true
    go None (Register f j) h = elim (cases_Bool (f == d)) as (λ x. not (f == d) ≡ true) [ inl e ↦ absurd (here f j e (h j refl)) | inr e ↦ ap not e ]
    go (Some a) (Register f j) h = elim (cases_Bool (f == d)) as (λ x. not ((f == d) && not (j == a)) ≡ true) [
      | inl e ↦ elim (cases_Bool (j == a)) as (λ x. not ((f == d) && not (j == a)) ≡ true) [
        | inl same ↦ ap (λ b. not (b && not (j == a))) e ∙ ap (λ b. not (not b)) same
        | inr other ↦ absurd (here f j e (h j other))
      ]
      | inr e ↦ ap (λ b. not (b && not (j == a))) e
    ]
    go None (Entry k) h = refl
    go _ _ h = refl

-- what holds of a field holds when nothing is known of it
pub perhaps_fits : (p : Image) (h : CellView) (o : Option Object) (x : Option Thing) (y : FieldState) → Fits p h o (filled x y) → Fits p h o (filled x Perhaps)
perhaps_fits p h o x y g = grind (arith, nat_tests, fits_unowning p h o Null)

pub claim_root : (p : Image) (d : Place → Kind) (ls : List Layer) → RootUnclaimed ls → claim p d ls (Elsewhere Root) ≡ d (Elsewhere Root)
claim_root p d [] u = refl
claim_root p d (Method fr sh ∷ ls) u = grind (arith, nat_tests, claim_root p d ls u.1)
claim_root p d (Dispatching x owned_chain ∷ ls) u = ap (λ b. cond b Null (claim p d ls (Elsewhere Root))) u.0 ∙ claim_root p d ls u.1
claim_root p d (_ ∷ ls) u = claim_root p d ls u

-- a method ends
pub ended : (p : Image) (cs : List Cell) (fr : Frame) (sh : AbstractState) (ls : List Layer) →
    ReceiverConforms p (receiver_holder fr.receiver) (holder_of p fr.method) → CountsAs p (receiver_holder fr.receiver) fr.view (holder_of p fr.method) →
    ReceiverIsHeld p cs ls fr.receiver → IsApart p fr.view fr.method fr.receiver ls → past_going ls ≡ ls → no_entry sh.entries ≡ true →
    none_owns sh.registers ≡ true → (serves p fr.method ≡ true → claim p (declared p cs) ls (Elsewhere In_service) ≡ delivered sh.message_state) →
    (r : Place) (h : CellView) (o : Option Object) → Fits p h o (claim p (declared p cs) (Method fr sh ∷ ls) r) → Fits p h o (claim p (declared p cs) ls r)
ended p cs fr sh ls receiver_conforms counts receiver_held apart at_top e n message (Register f i) h o fits =
    grind (arith, nat_tests, claim_register_above p cs ls f i, eqb-true, fits_unowning p h o, none_owns_at sh.registers i n)
ended p cs fr sh ls receiver_conforms counts receiver_held apart at_top e n message (Entry k) h o fits = grind (arith, nat_tests, no_entries)
ended p cs fr sh ls receiver_conforms counts receiver_held apart at_top e n message (Field m f) h o fits = go fr.receiver receiver_conforms receiver_held apart fits
  where
    own : Option Thing
    own = field_thing p (holder_of p fr.method) f

    go : (receiver : Receiver) → ReceiverConforms p (receiver_holder receiver) (holder_of p fr.method) → ReceiverIsHeld p cs ls receiver → IsApart p fr.view fr.method receiver ls → Fits p h o
        (receiver_claim p (holder_of p fr.method) receiver sh m f (claim p (declared p cs) ls (Field m f))) → Fits p h o (claim p (declared p cs) ls (Field m f))
    go Static receiver_conforms hs ap' fits = fits
    go AtRoot receiver_conforms hs ap' fits = fits
    go (Inside x from) receiver_conforms hs ap' fits = cases (x.name == m) refl own refl fits
      where
        cases : (b : Bool) → (x.name == m) ≡ b → (y : Option Thing) →
            own ≡ y → Fits p h o (cond b (own_field y (field sh f) (claim p (declared p cs) ls (Field m f))) (claim p (declared p cs) ls (Field m f))) →
            Fits p h o (claim p (declared p cs) ls (Field m f))
        cases false e y is fits = fits
        cases true e None is fits = fits
        cases true e (Some y) is fits =
            let same = eqb-true x.name m e in
            let viewed = subst (λ l. InView p fr.view (λ f. filled (field_thing p (thing_holder x.thing) f) Perhaps) x.name l) at_top ap'.2.0 in
            let claims = claim_in_view p (declared p cs) ls x.name f (λ f. filled (field_thing p (thing_holder x.thing) f) Perhaps) fr.view viewed
            (ap is_some (counts.fields f y is)) (ap (λ y. declared_field p y f) hs.lives) in
            subst (λ k. Fits p h o k) (sym (ap (λ z. filled z Perhaps) (receiver_conforms.fields f y is))
            ∙ sym claims ∙ ap (λ y. claim p (declared p cs) ls (Field y f)) same) (perhaps_fits p h o (Some y) (field sh f) fits)
ended p cs fr sh ls receiver_conforms counts receiver_held apart at_top e n message (Elsewhere Root) h o fits = grind (arith, nat_tests, claim_root p, perhaps_fits p h o)
ended p cs fr sh ls receiver_conforms counts receiver_held apart at_top e n message (Elsewhere In_service) h o fits = go (serves p fr.method) refl fits
  where
    go : (b : Bool) → serves p fr.method ≡ b → Fits p h o (cond b (delivered sh.message_state) (claim p (declared p cs) ls (Elsewhere In_service))) →
        Fits p h o (claim p (declared p cs) ls (Elsewhere In_service))
    go true serving fits = subst (λ k. Fits p h o k) (sym (message serving)) fits
    go false plain fits = fits
ended p cs fr sh ls receiver_conforms counts receiver_held apart at_top e n message _ h o fits = fits

-- what the rule says of a return
pub record Returnable (p : Image) (fr : Frame) (sh : AbstractState) (a : ℕ) : Type 0 where
  pub result : AllTrue (rule_result p fr.method fr.place sh (gives_of p fr.method) a)
  pub entries : entries_done p (gives_of p fr.method) sh.entries ≡ true
  pub free : none_owns (result_moved p fr.method fr.place sh (gives_of p fr.method) a).registers ≡ true
  pub fields : fields_done p (is_destructor p fr.method) (holder_of p fr.method) sh.fields ≡ true
  pub settled : unissued sh.states ≡ true
  pub cancels : only_if (is_cancel (method_role p fr.method)) (has cancel_done sh.states) ≡ true
  pub ends : IsTrue (has (after_of p fr.method) sh.states)
  pub message : only_if (serves p fr.method) (not (is_here sh.message_state)) ≡ true

pub returnable : (p : Image) (fr : Frame) (sh : AbstractState) (a : ℕ) → AllTrue (rule_return p fr.method fr.place sh a) → Returnable p fr sh a
returnable p fr sh a n = let parts =
    all_parts (rule_result p fr.method fr.place sh (gives_of p fr.method) a) (rule_left p fr.method fr.place sh a ++ rule_ended p fr.method fr.place sh) n in
    let left = all_parts (rule_left p fr.method fr.place sh a) (rule_ended p fr.method fr.place sh) parts.1 in
    record { result = parts.0; entries = left.0.0; free = left.0.1.0; fields = left.1.1.1.1.0; settled = left.1.0; cancels = left.1.1.0; ends = left.1.1.1.1.1.0; message = left.1.1.1.1.1.1.0 }

-- a return has its needs met, and leads to a well-typed state
abbrev pub IsReturned : Image → Typing → State → Frame → List Layer → ℕ → Type 0
IsReturned p t s fr ls a =
    AllTrue (needs_return p fr (tasks_of ls) s a) × WellTyped p t (applied p fr (tasks_of ls) s (Returns (gives_of p fr.method) a))

-- what each layer has to give to which a method may return
abbrev pub ReturnLaw : Image → Typing → State → Frame → AbstractState → List Layer → ℕ → Type 0
ReturnLaw p t s fr sh ls a = Returnable p fr sh a → IsReturned p t s fr ls a

-- a method that served has taken its message
pub message_gone : (p : Image) (fr : Frame) (sh : AbstractState) (a : ℕ) → Returnable p fr sh a → serves p fr.method ≡ true → sh.message_state ≡ Gone
message_gone p fr sh a r serving = grind (arith, nat_tests)

-- a method that gives nothing leaves no entry
pub none_left : (p : Image) (fr : Frame) (sh : AbstractState) (a : ℕ) → gives_of p fr.method ≡ Nothing → Returnable p fr sh a → no_entry sh.entries ≡ true
none_left p fr sh a nothing r = ap (λ g. entries_done p g sh.entries) (sym nothing) ∙ r.entries

-- one that leaves an object leaves it alone, or one that stands for it
pub record LeftAlone (p : Image) (x : ℕ) (es : List CleanupEntry) : Type 0 where
  pub class : ℕ
  pub alone : es ≡ Pushed_object class Ready ∷ []
  pub stands : is_subtype p (An_object_of class) (An_object_of x) ≡ true

pub left_alone : (p : Image) (x : ℕ) (es : List CleanupEntry) → leaves_one p x es ≡ true → LeftAlone p x es
left_alone p x [] e = cc
left_alone p x (Pushed_operation ∷ es) e = cc
left_alone p x (Pushed_object c Fresh ∷ es) e = grind (arith, nat_tests)
left_alone p x (Pushed_object c Ready ∷ []) e = record { class = c; alone = refl; stands = first (is_subtype p (An_object_of c) (An_object_of x)) true e }
  where
    first : (a b : Bool) → (a && b) ≡ true → a ≡ true
    first y b z = grind arith
left_alone p x (Pushed_object c Ready ∷ f ∷ es) e = grind (arith, nat_tests)

module _ (p : Image) (t : Typing) (c : Choice) (s : State) (fr : Frame) (sh : AbstractState) (ls : List Layer) (has_task : At p t s fr sh ls) where
  -- the cleanup stack is as it was
  pub same_items : no_entry sh.entries ≡ true → forms s.items ≡ items_of ls
  same_items e = has_task.items ∙ ap (λ es. objects es (items_of ls)) (no_entries sh.entries e)

  -- the object that is left is owned by the last entry
  pub left_held : (x : ℕ) → leaves_one p x sh.entries ≡ true → Fits p (seen s.cells) (held s.cells (Entry (length (items_of ls)))) (Own (An_object_of x) Ready)
  left_held x e = taken (held s.cells (Entry (length (items_of ls)))) (rw claims at (has_task.good.fits (Entry (length (items_of ls)))))
    where
      w : LeftAlone p x sh.entries
      w = left_alone p x sh.entries e

      below : Kind
      below = claim p (declared p s.cells) ls (Entry (length (items_of ls)))

      claims : claim p (declared p s.cells) (Method fr sh ∷ ls) (Entry (length (items_of ls))) ≡ Own (An_object_of w.class) Ready
      claims = ap (λ es. entry_claim es (items_of ls) (length (items_of ls)) below) w.alone
          ∙ ap (λ b. cond b (Own (An_object_of w.class) Ready) below) (eq-eqb (length (items_of ls)) _ refl)

      taken : (o : Option Object) → Fits p (seen s.cells) o (Own (An_object_of w.class) Ready) → Fits p (seen s.cells) o (Own (An_object_of x) Ready)
      taken None f = f
      taken (Some o) f = (stands_along p o.thing (An_object_of w.class) (An_object_of x) f.0 w.stands, tt)

  -- or one object lies there too
  one_left : (x : ℕ) → leaves_one p x sh.entries ≡ true → leaves_object p fr (tasks_of ls) s x s.items ≡ true
  one_left x e = go s.items (has_task.items ∙ ap (λ es. objects es (items_of ls)) (left_alone p x sh.entries e).alone)
    where
      there : (o : Option Object) → Fits p (seen s.cells) o (Own (An_object_of x) Ready) → (is_some o && is_thing p (An_object_of x) o) ≡ true
      there x f = grind arith

      go : (items : List Item) → forms items ≡ Object_form ∷ items_of ls → leaves_object p fr (tasks_of ls) s x items ≡ true
      go (An_object ∷ items) f =
          let same : forms items ≡ items_of ls = cc in
          let high : length items ≡ length (items_of ls) = sym (length_forms items) ∙ ap length same in
          let place : Place = Entry (length items) in
          and_from (length items == fr.height) (is_some (held s.cells place) && is_thing p (An_object_of x) (held s.cells place))
          (eq-eqb _ _ (high ∙ sym has_task.good.stack.1.height))
          (there (held s.cells place) (subst (λ n. Fits p (seen s.cells) (held s.cells (Entry n)) (Own (An_object_of x) Ready)) (sym high) (left_held x e)))
      go _ f = cc

  -- the cleanup stack is level
  level : (g : Gives) → entries_done p g sh.entries ≡ true → is_level p fr (tasks_of ls) s g ≡ true
  level x e = grind (arith, nat_tests, one_left, eq-eqb, length_forms, same_items)

module _ (p : Image) (t : Typing) (c : Choice) (s : State) (fr : Frame) (sh : AbstractState) (ls : List Layer) (has_task : At p t s fr sh ls) (a : ℕ)
    (r : Returnable p fr sh a) where
  spared : (g : Gives) → none_owns (result_moved p fr.method fr.place sh g a).registers ≡ true → (i : ℕ) → spares (result_source g a) i ≡ false →
      held s.cells (top ls i) ≡ None
  spared (An_own x) n i other =
      grind (arith, nat_tests, free_register p t c s fr sh ls has_task i, at-set_extending Unset sh.registers a i Null, eqb_comm a i, none_owns_at)
  spared (A_maybe x) n i other =
      grind (arith, nat_tests, free_register p t c s fr sh ls has_task i, at-set_extending Unset sh.registers a i Null, eqb_comm a i, none_owns_at)
  spared _ n i other = free_register p t c s fr sh ls has_task i (none_owns_at sh.registers i n)

  -- a method that cancels does not hang
  answered : not (hangs p fr (tasks_of ls) s) ≡ true
  answered = go (is_cancel (method_role p fr.method)) refl
    where
      own : (receiver : Receiver) → fr.receiver ≡ receiver → IsTrue (has cancel_done sh.states) → int_eq (status_of (own_request s.cells receiver)) pending ≡ false
      own Static e h = refl
      own AtRoot e h = refl
      own (Inside o from) e h =
          let holds : ReceiverIsHeld p s.cells ls (Inside o from) = subst (λ h. ReceiverIsHeld p s.cells ls h) e has_task.good.stack.2 in
          let below : Known = states_claim p o ls in
          let here = subst (λ h. ConformsTo (thing_kind p o.thing) (cond (works_at o.name h) (known_at p fr sh.states below) below) (requested s.cells o.name)) e
          (has_task.good.conforms_to o holds.lives) in
          completed (thing_kind p o.thing) (known_at p fr sh.states below) (requested s.cells o.name) h
          (subst (λ b. ConformsTo (thing_kind p o.thing) (cond b (known_at p fr sh.states below) below) (requested s.cells o.name)) (eq-eqb o.name o.name refl) here)

      go : (b : Bool) → is_cancel (method_role p fr.method) ≡ b → not (b && int_eq (status_of (own_request s.cells fr.receiver)) pending) ≡ true
      go false e = refl
      go true e = ap not (own fr.receiver refl (ap (λ b. only_if b (has cancel_done sh.states)) (sym e) ∙ r.cancels))

  -- the state after a return, with these cells as it begins
  abbrev pub after_return : List Cell → State
  after_return cs = returned p fr (tasks_of ls) (record s { cells = cs }) (gives_of p fr.method) a (tasks_of ls)

  -- the end of a method that does not cancel changes no request
  pub ended_plainly : is_cancel (method_role p fr.method) ≡ false → WellTyped p t (after_return s.cells) → WellTyped p t (applied p fr (tasks_of ls) s (Returns (gives_of p fr.method) a))
  ended_plainly e w = grind (arith, nat_tests)

  -- the needs of a return, from those of its result and of what it returns to
  pub return_needs : AllTrue (result_needs p fr (tasks_of ls) s (gives_of p fr.method) a) → AllTrue (end_needs p fr (tasks_of ls) s (tasks_of ls)) →
      AllTrue (needs_return p fr (tasks_of ls) s a)
  return_needs result end = grind (arith, nat_tests, all_join, result, level p t c s fr sh ls has_task, none_owns_from s.cells, spared, answered)
