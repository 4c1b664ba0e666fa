-- Right over the going of a server: the sessions with it go one after another, and then its destructor begins.
use Rattle.std.proofs.lemmas.Bool.Decides.{nat_tests}
use Rattle.std.proofs.Common.{[], Bool, List, None, Option, Some, ap, arith, cond, false, inl, inr, length, refl, subst, sym, true, ℕ, ◌==◌, ◌∙◌, ◌∷◌, ◌≡◌}
use Rattle.std.proofs.lemmas.Bool.{cases_Bool, eqb-true}
use Rattle.std.specs.Prelude.{filter}
use Rattle.aom_image.specs.Image.{Image}
use Rattle.aom_typing_rules.specs.Typing.{IsTyped, Typing}
use Rattle.aom_abstract_state.specs.Kinds.{filled}
use Rattle.aom_roles.specs.Things.{field_thing}
use Rattle.aom_abstract_state.specs.declared.kind.FieldState.TheVariants.{Perhaps}
use Rattle.aom_abstract_state.specs.declared.kind.Kind.TheVariants.{Null}
use Rattle.aom_safety.proofs.Destroying.{server_last, Bare, Untouched, destruct, no_going, untouched, goes_well}
use Rattle.aom_safety.proofs.Items.{length_forms}
use Rattle.aom_safety.proofs.Claimed.{claim_unclaimed, stack_moved}
use Rattle.aom_safety.proofs.SemanticsLemmas.{same_place-true}
use Rattle.aom_safety.proofs.Parting.{among_others, among_parted}
use Rattle.aom_safety.proofs.Straight.{fits_unowning}
use Rattle.aom_safety.proofs.ConformingTo.{same_object, unworked_rests}
use Rattle.aom_safety.specs.Claims.{declared_field, Dispatching, Dying, Ending, Layer, Mark, Method, Unwinding, claim, declared, forms, items_of, tasks_of}
use Rattle.aom_semantics.specs.Destruction.{closing, first_session, parting, owned_object_or}
use Rattle.aom_safety.specs.Laws.{IsWired}
use Rattle.aom_semantics.specs.Places.{requested, Cell, Elsewhere, Field, Going, Object, Place, Session, changed, held, named, seen, service_of}
use Rattle.aom_safety.specs.Requests.{ConformsTo, resting_in, states_claim, thing_kind, AllConformTo}
use Rattle.aom_semantics.specs.Servers.{is_among, is_other}
use Rattle.aom_semantics.specs.State.{Receiver, OwnedObject, State, thing_holder}
use Rattle.aom_safety.specs.WellTyped.{IsOwnedChain, AllUndo, Back, Fits, Gone, Good, ReceiverIsHeld, PreservesTyping, NoOwnedObjectAt}
use Rattle.aom_safety.specs.WellTyped.{NoneFrom, NotFrom, SomeIn, SomeOwned, Stack, WellTyped}
use Rattle.aom_abstract_state.specs.declared.kind.Kind.{Kind}
use Rattle.aom_roles.specs.States.{last_of}

-- ---- the first session that is there

none_first : (cs : List Cell) (n : ℕ) (ss : List ℕ) → first_session cs n ss ≡ None → (c : ℕ) → is_among c ss ≡ true → held cs (Elsewhere (Session n c)) ≡ None
none_first cs n [] e c among = cc
none_first cs n (d ∷ ss) e c among = go (held cs (Elsewhere (Session n d))) refl e (λ e h. none_first cs n ss e c h)
  where
    go : (o : Option Object) → held cs (Elsewhere (Session n d)) ≡ o → owned_object_or o (Elsewhere (Session n d)) (first_session cs n ss) ≡ None →
        (first_session cs n ss ≡ None → is_among c ss ≡ true → held cs (Elsewhere (Session n c)) ≡ None) → held cs (Elsewhere (Session n c)) ≡ None
    go o there e later = grind arith

pub record Found (cs : List Cell) (n : ℕ) (x : OwnedObject) : Type 0 where
  pub client : ℕ
  pub place : x.place ≡ Elsewhere (Session n client)
  pub there : held cs x.place ≡ Some x.object

pub found_first : (cs : List Cell) (n : ℕ) (ss : List ℕ) (x : OwnedObject) → first_session cs n ss ≡ Some x → Found cs n x
found_first cs n [] x e = cc
found_first cs n (d ∷ ss) x e = go (held cs (Elsewhere (Session n d))) refl e (λ e. found_first cs n ss x e)
  where
    go : (o : Option Object) → held cs (Elsewhere (Session n d)) ≡ o →
        owned_object_or o (Elsewhere (Session n d)) (first_session cs n ss) ≡ Some x → (first_session cs n ss ≡ Some x → Found cs n x) → Found cs n x
    go None there e later = later e
    go (Some o) there e later =
        let same : record { object = o; place = Elsewhere (Session n d) } ≡ x = cc in
        subst (λ (y : OwnedObject). Found cs n y) same (record { client = d; place = refl; there = there })

-- nothing below is at a session with a cell that does not belong there
none_from : (p : Image) (t : Typing) (cs : List Cell) (n c : ℕ) (ls : List Layer) (back : Back) → Stack p t cs back ls → (SomeIn n ls → ⊥) →
    NoneFrom (Elsewhere (Session n c)) ls
none_from p t cs n c [] back s none = tt
none_from p t cs n c (Method fr sh ∷ ls) back s none = (at_receiver fr.receiver s.2, none_from p t cs n c ls _ s.4 (λ h. none (inr h)))
  where
    at_receiver : (h : Receiver) → ReceiverIsHeld p cs ls h → NotFrom (Elsewhere (Session n c)) h
    at_receiver x h = grind (arith, nat_tests, same_place-true (Elsewhere (Session n c)), cases_Bool)
none_from p t cs n c (Mark gv ∷ ls) back s none = none_from p t cs n c ls _ s.1 none
none_from p t cs n c (Dying o ∷ ls) back s none = none_from p t cs n c ls _ s.2 none
none_from p t cs n c (Ending o left ∷ ls) back s none = none_from p t cs n c ls _ s.3 none
none_from p t cs n c (Unwinding code es ∷ ls) back s none = none_from p t cs n c ls _ s.1 none
none_from p t cs n c (Dispatching d owned_chain ∷ ls) back s none = (at_owned_objects owned_chain s.2 (λ h. none (inl h)), grind (arith, nat_tests))
  where
    at_owned_objects : (xs : List OwnedObject) → IsOwnedChain cs xs → (SomeOwned n xs → ⊥) → NoOwnedObjectAt (Elsewhere (Session n c)) xs
    at_owned_objects [] h none = tt
    at_owned_objects (x ∷ xs) h none = (grind (arith, nat_tests, same_place-true (Elsewhere (Session n c)) x.place, cases_Bool), at_owned_objects xs h.1 (λ h. none (inr h)))

module _ (p : Image) (t : Typing) (wired : IsWired p) (typed : IsTyped p t) (s : State) (o : Object) (left : List ℕ) (ls : List Layer)
    (good : Good p t s.cells (Ending o left ∷ Dying o ∷ ls)) (items : forms s.items ≡ items_of ls) (undo_operations : AllUndo p s.items) where
  abbrev cs : List Cell
  cs = s.cells

  abbrev before : List Layer
  before = Ending o left ∷ Dying o ∷ ls

  there : held cs (Going (length (tasks_of ls))) ≡ Some o
  there = good.stack.3.0.1

  lives : named cs o.name ≡ Some o
  lives = good.stack.3.0.0

  high : length s.items ≡ length (items_of ls)
  high = sym (length_forms s.items) ∙ ap length items

  own : Untouched p (λ f. filled (field_thing p (thing_holder o.thing) f) Perhaps) o.name ls
  own = untouched p t cs (Going (length (tasks_of ls))) o good.no_duplicates there (λ f. filled (field_thing p (thing_holder o.thing) f) Perhaps) ls Gone
      (omega arith) good.stack.3.2

  -- with none left its destructor begins
  module _ (none : (c : ℕ) → held cs (Elsewhere (Session o.name c)) ≡ None) where
    bare : (r : Place) → Fits p (seen cs) (held cs r) (Bare p cs o ls r)
    bare (Field m f) = go (o.name == m) refl (good.fits (Field m f))
      where
        own_claim : claim p (declared p cs) ls (Field o.name f) ≡ filled (field_thing p (thing_holder o.thing) f) Perhaps
        own_claim = claim_unclaimed p (declared p cs) ls o.name f (λ f. filled (field_thing p (thing_holder o.thing) f) Perhaps) own.unclaimed
            (ap (λ x. declared_field p x f) lives)

        go : (b : Bool) → (o.name == m) ≡ b → Fits p (seen cs) (held cs (Field m f)) (cond b (filled (field_thing p (thing_holder o.thing) f) Perhaps)
            (cond b Null (claim p (declared p cs) ls (Field m f)))) → Fits p (seen cs) (held cs (Field m f)) (claim p (declared p cs) ls (Field m f))
        go true e h = subst (λ k. Fits p (seen cs) (held cs (Field m f)) k) (grind (arith, nat_tests, own_claim, eqb-true)) h
        go false e h = h
    bare r = grind (arith, nat_tests, eqb-true o.name)

    conforms_to_below : AllConformTo p cs ls
    conforms_to_below x lives' = go (o.name == x.name) refl (good.conforms_to x lives')
      where
        go : (b : Bool) → (o.name == x.name) ≡ b → ConformsTo (thing_kind p x.thing) (cond b (resting_in (last_of (thing_kind p x.thing))) (states_claim p x ls))
            (requested cs x.name) → ConformsTo (thing_kind p x.thing) (states_claim p x ls) (requested cs x.name)
        go true e h = subst (λ y. ConformsTo (thing_kind p y.thing) (states_claim p y ls) (requested cs y.name)) (same_object cs o x lives lives' e)
            (subst (λ k. ConformsTo (thing_kind p o.thing) k (requested cs o.name)) (sym (unworked_rests p o ls own.unworked))
            (subst (λ n. ConformsTo (thing_kind p o.thing) (resting_in n) (requested cs o.name)) (server_last (thing_kind p o.thing) good.stack.0.server)
            (subst (λ y. ConformsTo (thing_kind p y.thing) (resting_in (last_of (thing_kind p y.thing))) (requested cs y.name)) (sym (same_object cs o x lives lives' e)) h)))
        go false e h = h

  -- one more goes
  module _ (c : ℕ) (so : Object) (holds : held cs (Elsewhere (Session o.name c)) ≡ Some so) where
    abbrev q : Place
    q = Elsewhere (Session o.name c)

    abbrev fewer : List ℕ
    fewer = filter (is_other c) left

    abbrev over : List Layer
    over = Ending o fewer ∷ Dying o ∷ ls

    abbrev g : Place
    g = Going (length (tasks_of over))

    claims : (r : Place) → claim p (declared p cs) over r ≡ changed (claim p (declared p cs) before) q Null r
    claims x = grind (arith, nat_tests, eqb-true c, among_parted c left, among_others)

    stack_over : Stack p t cs Gone over
    stack_over = search (arith, nat_tests, lives, eqb-true, among_parted, among_others)

    outside : NoneFrom q ls
    outside = none_from p t cs o.name c ls Gone good.stack.3.2 own.some

    free : held cs g ≡ None
    free = no_going p t cs so q before over good.fits holds (omega arith) claims

    session_gone : WellTyped p t (parting p o (Some (record { object = so; place = q })) (tasks_of ls) s)
    session_gone =
        let k : ℕ → Kind = λ f. filled (field_thing p (thing_holder so.thing) f) Perhaps in
        goes_well p t cs so q before over good.fits holds (omega arith) claims wired typed good.no_duplicates
        (stack_moved p t cs q g over Gone free outside (omega arith) stack_over) (untouched p t cs q so good.no_duplicates holds k over Gone outside stack_over)
        good.conforms_to (parting p o (Some (record { object = so; place = q })) (tasks_of ls) s) (length s.items) high refl refl items undo_operations

  closing_well : (x : Option OwnedObject) → first_session cs o.name (service_of cs o.name).sessions ≡ x → WellTyped p t (parting p o x (tasks_of ls) s)
  closing_well None e = grind (arith, nat_tests, destruct, there, lives, own, conforms_to_below, bare, high, none_first, fits_unowning p)
  closing_well (Some x) e =
      let f = found_first cs o.name (service_of cs o.name).sessions x e in
      subst (λ (y : OwnedObject). WellTyped p t (parting p o (Some y) (tasks_of ls) s)) (ap (λ q. record { object = x.object; place = q }) (sym f.place))
      (grind (arith, nat_tests, session_gone))

  closing_goes : PreservesTyping p t (closing p (tasks_of (Dying o ∷ ls)) s)
  closing_goes = grind (arith, nat_tests, there, closing_well)

pub closing_keeps : (p : Image) (t : Typing) → IsWired p → IsTyped p t → (s : State) (o : Object) (left : List ℕ) (ls : List Layer) →
    Good p t s.cells (Ending o left ∷ ls) → forms s.items ≡ items_of ls → AllUndo p s.items → PreservesTyping p t (closing p (tasks_of ls) s)
closing_keeps p t wired typed s o left x good items undo_operations = grind (arith, nat_tests, closing_goes p t wired typed s o left)
