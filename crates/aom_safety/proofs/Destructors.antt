-- A destructor returns: the next of its line begins, or its cell goes. It leaves nothing in the fields past those of its class's parent, and the next is of a
-- class that has all the parent's.
use Rattle.std.proofs.lemmas.Bool.Decides.{nat_tests}
use Rattle.aom_image.specs.declared.method.Role.TheVariants.{Destruct}
use Rattle.aom_image.specs.declared.class.ClassKind.{ClassKind}
use Rattle.aom_safety.specs.Laws.{IsWired}
use Rattle.aom_link_conditions.specs.Roles.{role_of}
use Rattle.aom_roles.specs.Families.{parent_of, fields_above}
use Rattle.aom_safety.proofs.RolesLemmas.{child, itself, through}
use Rattle.aom_semantics.specs.Destruction.{begun_by, class_destructor, is_at_rest, next_destructor, needs_past, needs_rest, is_past}
use Rattle.aom_safety.proofs.Dropping.{held_dropped, queue_dropped}
use Rattle.aom_safety.proofs.ReceiverHolding.{destructs_member}
use Rattle.aom_safety.proofs.Destroying.{eqb_comm, begins_line, destroys_by, Destroys, Bare, untouched, Untouched}
use Rattle.std.proofs.Common.{leb-true, [], Bool, IsTrue, List, None, Option, Some, ap, arith, cond, false}
use Rattle.std.proofs.Common.{length, refl, subst, suc, sym, true, zero, ℕ, ◌==◌, ◌∙◌, ◌∷◌, ◌≡◌, ◌≤◌, ◌&&◌}
use Rattle.std.proofs.lemmas.Bool.{and_parts, eq-eqb, eqb-true}
use Rattle.std.specs.Prelude.{slice_get, nat_le}
use Rattle.aom_image.specs.Image.{Image}
use Rattle.aom_image.specs.Views.{fields_of, has, method_role}
use Rattle.aom_image.specs.declared.method.Thing.{Thing}
use Rattle.aom_image.specs.declared.method.Thing.TheVariants.{Object as An_object_of}
use Rattle.aom_abstract_state.specs.Kinds.{all_empty, field, filled, is_empty, no_entry, none_owns, register}
use Rattle.aom_typing_rules.specs.Calls.{empty_past, fields_done, is_destruct, result_moved}
use Rattle.aom_image.specs.declared.method.Role.{Role}
use Rattle.aom_roles.specs.Tests.{AllTrue}
use Rattle.aom_roles.specs.Roles.{is_cancel}
use Rattle.aom_abstract_state.specs.AbstractState.{AbstractState}
use Rattle.aom_roles.specs.Tables.{at}
use Rattle.aom_roles.specs.Things.{holder_by, Member, field_thing, holder_of}
use Rattle.aom_typing_rules.specs.Typing.{IsTyped, Typing}
use Rattle.aom_abstract_state.specs.declared.kind.FieldState.{FieldState}
use Rattle.aom_abstract_state.specs.declared.kind.FieldState.TheVariants.{Perhaps}
use Rattle.aom_abstract_state.specs.declared.kind.Kind.TheVariants.{Null}
use Rattle.aom_safety.proofs.Claimed.{claim_unclaimed, claim_register_above}
use Rattle.aom_safety.proofs.Finishing.{ReturnLaw, all_join, ended_plainly, no_entries, none_left, none_owns_at, return_needs, same_items}
use Rattle.aom_safety.proofs.Going.{dying_rests, past_by}
use Rattle.aom_safety.proofs.Straight.{At, fits_unowning}
use Rattle.aom_safety.specs.Claims.{forms, declared_field, Dying, Layer, claim, declared, items_of, own_field, tasks_of}
use Rattle.aom_semantics.specs.Places.{Queued, Session, Request, Cell, CellView, In_service, Elsewhere, Entry}
use Rattle.aom_semantics.specs.Places.{Field, Going, Object, Place, Register, Root, held, requested, seen}
use Rattle.aom_semantics.specs.Servers.{is_queue_of, without_queue}
use Rattle.aom_semantics.specs.State.{receiver_holder, Choice, Frame, Inside, State, thing_holder}
use Rattle.aom_safety.specs.WellTyped.{Gone, WellTyped, ReceiverConforms, IsOfFamily, Fits, Good}
use Rattle.aom_abstract_state.specs.Arguments.{after_of}
use Rattle.aom_roles.specs.States.{states_of, last_of}
use Rattle.aom_safety.specs.Requests.{AllConformTo, ConformsTo, resting_in, states_claim, thing_kind}
use Rattle.aom_safety.proofs.ConformingTo.{unworked_rests, known_plain, same_object, conforms_to_less}
use Rattle.aom_safety.proofs.Attending.{plain_claim}

pub empty_at : (ts : List Thing) (xs : List FieldState) (f : ℕ) (y : Thing) → all_empty ts xs ≡ true → slice_get ts f ≡ Some y → is_empty (at Perhaps xs f) ≡ true
empty_at [] xs f y e h = let clash : slice_get {X = Thing} [] f ≡ Some y = h in cc
empty_at (t ∷ ts) [] f y e h = cc
empty_at (t ∷ ts) (x ∷ xs) zero y e h = (and_parts _ _ e).0
empty_at (t ∷ ts) (x ∷ xs) (suc f) y e h = empty_at ts xs f y (and_parts _ _ e).1 h

-- a field past so many is empty where these are
past_at : (k : ℕ) (ts : List Thing) (xs : List FieldState) (f : ℕ) (y : Thing) → empty_past k ts xs ≡ true → k ≤ f → slice_get ts f ≡ Some y →
    is_empty (at Perhaps xs f) ≡ true
past_at zero ts xs f y e le h = empty_at ts xs f y e h
past_at (suc k) [] xs f y e le h = let clash : slice_get {X = Thing} [] f ≡ Some y = h in cc
past_at (suc k) (t ∷ ts) xs zero y e le h = absurd (omega arith)
past_at (suc k) (t ∷ ts) [] (suc f) y e le h = past_at k ts [] f y e (omega arith) h
past_at (suc k) (t ∷ ts) (x ∷ xs) (suc f) y e le h = past_at k ts xs f y e (omega arith) h

-- what is not among the first of them
none_from : (ts : List Thing) (f : ℕ) → slice_get ts f ≡ None → length ts ≤ f
none_from [] f e = omega arith
none_from (t ∷ ts) zero e = cc
none_from (t ∷ ts) (suc f) e = let le = none_from ts f e in omega (arith, le)

-- what destructs does not cancel
destructs_only : (r : Option Role) → is_destruct r ≡ true → is_cancel r ≡ false
destructs_only x e = grind arith

-- what may rest as its destructor ends rests
last_rests : (k : Option ClassKind) (r : Option Request) → ConformsTo k (resting_in (last_of k)) r → ConformsTo k (resting_in (states_of k)) r
unfolding last_of states_of
last_rests k r s = grind arith

-- an empty field owns nothing, and what owns nothing fits
empty_none : (p : Image) (h : CellView) (x : Option Object) (y : Thing) (z : FieldState) → is_empty z ≡ true → Fits p h x (filled (Some y) z) → x ≡ None
empty_none p h x y z e f = grind (arith, nat_tests, fits_unowning p h x Null)

module _ (p : Image) (t : Typing) (c : Choice) (s : State) (fr : Frame) (sh : AbstractState) (o : Object) (ls : List Layer) (has_task : At p t s fr sh (Dying o ∷ ls)) where
  abbrev cs : List Cell
  cs = s.cells

  abbrev g : Place
  g = Going (length (tasks_of ls))

  abbrev h : CellView
  h = seen s.cells

  -- which class its object is of, and which the destructor
  abbrev class : ℕ
  class = has_task.good.stack.4.1.6

  thing : o.thing ≡ An_object_of has_task.good.stack.4.1.6
  thing = has_task.good.stack.4.1.7

  line : IsOfFamily p has_task.good.stack.4.1.6 fr.method
  line = has_task.good.stack.4.1.8

  receiver : fr.receiver ≡ Inside o (Going (length (tasks_of ls)))
  receiver = has_task.good.stack.4.1.1

  destructs : is_destruct (method_role p fr.method) ≡ true
  destructs = has_task.good.stack.4.1.2

  holder : holder_of p fr.method ≡ Member line.class
  holder = ap (λ k. holder_by (method_role p fr.method) k) line.of ∙ destructs_member (method_role p fr.method) line.class destructs

  receiver_conforms : ReceiverConforms p (thing_holder o.thing) (holder_of p fr.method)
  receiver_conforms = subst (λ k. ReceiverConforms p (receiver_holder k) (holder_of p fr.method)) receiver has_task.good.stack.1.holder

  -- how many of its class's fields are the parent's
  abbrev above : ℕ
  above = fields_above p (parent_of p line.class)

  -- with what the rule says of the registers, of the entries and of the fields
  module _ (entries : no_entry sh.entries ≡ true) (free : none_owns sh.registers ≡ true) (done : empty_past above (fields_of p line.class) sh.fields ≡ true)
      (ends : IsTrue (has (after_of p fr.method) sh.states)) where
    -- nothing is left past the parent's
    past : (f : ℕ) → above ≤ f → held cs (Field o.name f) ≡ None
    past f le = go (field_thing p (holder_of p fr.method) f) refl (grind (arith, nat_tests, receiver))
      where
        go : (x : Option Thing) → field_thing p (holder_of p fr.method) f ≡ x → Fits p h (held cs (Field o.name f)) (own_field x (field sh f) Null) →
            held cs (Field o.name f) ≡ None
        go None e fits = fits_unowning p h (held cs (Field o.name f)) Null refl fits
        go (Some y) e fits = empty_none p h (held cs (Field o.name f)) y
            (field sh f) (past_at above (fields_of p line.class) sh.fields f y done le (ap (λ k. field_thing p k f) (sym holder) ∙ e)) fits

    -- of all other places what stands below claims what is so
    abbrev IsBeside : Place → Type 0
    IsBeside (Field m f) = (o.name == m) ≡ false
    IsBeside r = Unit {0}

    beside : (r : Place) → IsBeside r → Fits p h (held cs r) (claim p (declared p cs) (Dying o ∷ ls) r)
    beside (Register f i) u = go (length (tasks_of (Dying o ∷ ls)) == f) refl (has_task.good.fits (Register f i))
      where
        go : (b : Bool) → (length (tasks_of (Dying o ∷ ls)) == f) ≡ b → Fits p h (held cs (Register f i))
            (cond b (register sh i) (claim p (declared p cs) ls (Register f i))) → Fits p h (held cs (Register f i)) (claim p (declared p cs) ls (Register f i))
        go true e fits = rw (claim_register_above p cs ls f i (omega (arith, eqb-true _ _ e)))
            (rw (fits_unowning p h _ (register sh i) (none_owns_at sh.registers i free) fits) tt)
        go false e fits = fits
    beside (Entry k) u = grind (arith, nat_tests, no_entries sh.entries entries)
    beside (Field m f) other = grind (arith, nat_tests, receiver)
    beside (Elsewhere Root) u = grind (arith, nat_tests, receiver)
    beside (Elsewhere In_service) u = grind (arith, nat_tests, plain_claim, destructs)
    beside (Elsewhere w) u = has_task.good.fits (Elsewhere w)
    beside (Going k) u = has_task.good.fits (Going k)

    -- the object is in a state in which it may go
    conforms_to_dying : AllConformTo p cs (Dying o ∷ ls)
    conforms_to_dying x lives = grind (arith, nat_tests, receiver, same_object, conforms_to_less, known_plain, destructs_only, destructs)

    -- so its request is at rest
    rests : is_at_rest (requested cs o.name) ≡ true
    rests = dying_rests (thing_kind p o.thing) (requested cs o.name)
        (subst (λ b. ConformsTo (thing_kind p o.thing) (cond b (resting_in (last_of (thing_kind p o.thing))) (states_claim p o ls)) (requested cs o.name))
        (eq-eqb o.name o.name refl) (conforms_to_dying o has_task.good.stack.4.0.0))

    -- with no fields of the parent's class the cell goes
    goes : ((f : ℕ) → held cs (Field o.name f) ≡ None) → Good p t cs (Dying o ∷ ls)
    goes null = search (arith, nat_tests, conforms_to_dying, eqb-true o.name, beside)

    -- no other layer works on it
    apart : Untouched p (λ f. filled (field_thing p (thing_holder o.thing) f) Perhaps) o.name ls
    apart = untouched p t cs g o has_task.good.no_duplicates has_task.good.stack.4.0.1 (λ f. filled (field_thing p (thing_holder o.thing) f) Perhaps) ls Gone
        (omega arith) has_task.good.stack.4.2

    bare : (r : Place) → Fits p h (held cs r) (Bare p cs o ls r)
    bare (Field n f) = go (o.name == n) refl
      where
        declares : claim p (declared p cs) ls (Field o.name f) ≡ filled (field_thing p (thing_holder o.thing) f) Perhaps
        declares = claim_unclaimed p (declared p cs) ls o.name f
            (λ f. filled (field_thing p (thing_holder o.thing) f) Perhaps) apart.unclaimed (ap (λ x. declared_field p x f) has_task.good.stack.4.0.0)

        go : (b : Bool) → (o.name == n) ≡ b → Fits p h (held cs (Field n f)) (claim p (declared p cs) ls (Field n f))
        go true e = subst (λ n. Fits p h (held cs (Field n f)) (claim p (declared p cs) ls (Field n f))) (eqb-true o.name n e) (grind (arith, nat_tests, declares))
        go false e = subst (λ b. Fits p h (held cs (Field n f)) (cond b Null (claim p (declared p cs) ls (Field n f)))) e (beside (Field n f) e)
    bare (Going k) = grind (arith, nat_tests, beside (Going k))
    bare (Register f i) = beside (Register f i) tt
    bare (Entry k) = beside (Entry k) tt
    bare (Elsewhere Root) = beside (Elsewhere Root) tt
    bare (Elsewhere (Session m client)) = beside (Elsewhere (Session m client)) tt
    bare (Elsewhere In_service) = beside (Elsewhere In_service) tt
    bare (Elsewhere (Queued m k)) = beside (Elsewhere (Queued m k)) tt

    conforms_to_below : AllConformTo p cs ls
    conforms_to_below x lives = grind (arith, nat_tests, conforms_to_dying x lives, unworked_rests p x ls, eqb-true o.name x.name, last_rests)

    -- what is left is another cell's, or the parent's
    left : AllTrue (needs_past above (without_queue o.name cs) o.name)
    left = past_by above (without_queue o.name cs) o.name (λ r e. ap (λ l. held l r) (queue_dropped o.name cs) ∙ held_dropped (is_queue_of o.name) cs r ∙ none r e)
      where
        of_name : (m f : ℕ) (b : Bool) → (o.name == m) ≡ b → (b && nat_le above f) ≡ true → held cs (Field m f) ≡ None
        of_name m f true same e = ap (λ n. held cs (Field n f)) (sym (eqb-true o.name m same)) ∙ past f (leb-true above f e)
        of_name m f false other e = cc

        session : (m client : ℕ) → (o.name == m) ≡ true → held cs (Elsewhere (Session m client)) ≡ None
        session m client same = fits_unowning p h _ Null refl
            (subst (λ b. Fits p h (held cs (Elsewhere (Session m client))) (cond b Null (claim p (declared p cs) ls (Elsewhere (Session m client))))) same
            (beside (Elsewhere (Session m client)) tt))

        queued : (m k : ℕ) (b : Bool) → (m == o.name) ≡ b → b ≡ true → cond b None (held cs (Elsewhere (Queued m k))) ≡ None
        queued m k true e is = refl
        queued m k false e is = cc

        none : (r : Place) → is_past above o.name r ≡ true → cond (is_queue_of o.name r) None (held cs r) ≡ None
        none (Field m f) e = of_name m f (o.name == m) refl e
        none (Elsewhere (Session m client)) e = session m client e
        none (Elsewhere (Queued m k)) e = queued m k (m == o.name) refl (eqb_comm m o.name ∙ e)
        none _ e = cc

    -- the next of the line begins, or there is none and the parent has no fields
    module _ (wired : IsWired p) (typed : IsTyped p t) (items : forms s.items ≡ items_of ls) where
      abbrev Then : Option ℕ → State
      Then d = record s { tasks = begun_by p d o fr.height (tasks_of ls) }

      dies : ((f : ℕ) → held cs (Field o.name f) ≡ None) → WellTyped p t (Then None)
      dies null = record { layers = Dying o ∷ ls; tasks = refl; items = items; undo_operations = has_task.undo_operations; good = goes null }

      begins : (e k : ℕ) → parent_of p line.class ≡ Some e → role_of p e Destruct ≡ Some k → WellTyped p t (Then (Some k))
      begins e k parent role =
          let family = through p has_task.good.stack.4.1.6 line.class e line.above (child p line.class e e parent (itself p e)) in
          let d = subst (λ x. Destroys p x k) (sym thing) (destroys_by p wired has_task.good.stack.4.1.6 e k family role) in
          begins_line p t wired typed cs o ls has_task.good.no_duplicates has_task.good.stack.4.2 has_task.good.stack.4.0.1 has_task.good.stack.4.0.0 apart conforms_to_below bare
          k d others (Then (Some k)) fr.height has_task.good.stack.1.height refl refl items has_task.undo_operations
        where
          others : (f : ℕ) → field_thing p (holder_of p k) f ≡ None → held cs (Field o.name f) ≡ None
          others f none = past f (subst (λ x. fields_above p x ≤ f) (sym parent) (none_from (fields_of p e) f (wired.empties e k role f ∙ none)))

      of_role : (e : ℕ) (d : Option ℕ) → parent_of p line.class ≡ Some e → role_of p e Destruct ≡ d → WellTyped p t (Then d)
      of_role e (Some k) parent role = begins e k parent role
      of_role e None parent role = dies (λ f. past f
          (subst (λ x. fields_above p x ≤ f) (sym parent) (let none = none_from (fields_of p e) 0 (wired.no_destructor e role 0) in omega (arith, none))))

      of_parent : (x : Option ℕ) → parent_of p line.class ≡ x → WellTyped p t (Then (class_destructor p x))
      of_parent x parent = grind (arith, nat_tests, dies, past, of_role)

      next_well : WellTyped p t (Then (next_destructor p fr.method))
      next_well = grind (arith, nat_tests, of_parent)

  pub law_destructor : IsWired p → IsTyped p t → (a : ℕ) → ReturnLaw p t s fr sh (Dying o ∷ ls) a
  law_destructor wired typed a r =
      let its = has_task.good.stack.4.1 in
      let done : fields_done p true (Member line.class) sh.fields ≡ true =
      ap (λ k. fields_done p true k sh.fields) (sym holder) ∙ ap (λ b. fields_done p b (holder_of p fr.method) sh.fields) (sym destructs) ∙ r.fields in
      let free : none_owns sh.registers ≡ true = ap (λ g. none_owns (result_moved p fr.method fr.place sh g a).registers) (sym its.3) ∙ r.free in
      let entries : no_entry sh.entries ≡ true = none_left p fr sh a its.3 r in
      let items = same_items p t c s fr sh (Dying o ∷ ls) has_task entries in (
        return_needs p t c s fr sh (Dying o ∷ ls) has_task a r (rw its.3 tt) (rw receiver (rw line.of (all_join (needs_past above (without_queue o.name cs) o.name)
            (needs_rest cs o.name ∷ []) (left entries free done r.ends) (rests entries free done r.ends, tt)))),
        grind (
          arith,
          nat_tests,
          ended_plainly p t c s fr sh (Dying o ∷ ls) has_task a r,
          destructs_only,
          destructs,
          receiver,
          next_well entries free done r.ends wired typed items,
        ),
      )
