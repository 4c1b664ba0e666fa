-- Destruction begins: from a delete, and as an entry is unwound.
use Rattle.std.proofs.lemmas.Bool.Decides.{nat_tests}
use Rattle.std.proofs.Common.{[], Bool, List, None, Option, Some, ap, arith, cond, false, length}
use Rattle.std.proofs.Common.{refl, subst, suc, sym, true, ℕ, ⊎_elim, ◌==◌, ◌∙◌, ◌∷◌, ◌≡◌, ◌≤◌}
use Rattle.std.proofs.lemmas.Bool.{cases_Bool, eq-eqb, eqb-true, ne_eqb, true≢false}
use Rattle.std.specs.Prelude.{is_some, IsSome, is_none, map, replicate}
use Rattle.aom_image.specs.Image.{Image}
use Rattle.aom_image.specs.Views.{arguments_of, gives_of, is_quiet, leaves, method_at, method_role}
use Rattle.aom_instructions.specs.declared.instr.Instr.{Instr}
use Rattle.aom_instructions.specs.declared.instr.Instr.TheVariants.{Delete}
use Rattle.aom_image.specs.declared.method.Gives.TheVariants.{Nothing}
use Rattle.aom_image.specs.declared.method.Role.TheVariants.{Destruct}
use Rattle.aom_image.specs.declared.method.Thing.{Thing}
use Rattle.aom_image.specs.declared.method.Thing.TheVariants.{Message, Object as An_object_of}
use Rattle.aom_typing_rules.specs.Calls.{is_destruct}
use Rattle.aom_abstract_state.specs.Kinds.{field, filled, may_be_destroyed, register, set_register}
use Rattle.aom_abstract_state.specs.Order.{IsImpliedBy, Weaker, WeakerFilling, alike, alike_filling}
use Rattle.aom_abstract_state.specs.AbstractState.{AbstractState}
use Rattle.aom_roles.specs.Tables.{at}
use Rattle.aom_roles.specs.Things.{Member, field_thing, holder_by, holder_of}
use Rattle.aom_typing_rules.specs.Typing.{IsTyped, Typing}
use Rattle.aom_abstract_state.specs.Arguments.{after_of, argument_kind, before_of, entry_fields, entry_shape}
use Rattle.aom_abstract_state.specs.declared.kind.InitState.TheVariants.{Ready}
use Rattle.aom_abstract_state.specs.declared.kind.FieldState.{FieldState}
use Rattle.aom_abstract_state.specs.declared.kind.FieldState.TheVariants.{Perhaps}
use Rattle.aom_abstract_state.specs.declared.kind.Kind.{Kind}
use Rattle.aom_abstract_state.specs.declared.kind.Kind.TheVariants.{Null, Own, Unset}
use Rattle.aom_safety.proofs.Claimed.{no_owned_object_outside, Outside, claim-set_register, claim_frame, claim_going_above, claim_register_above, claim_unclaimed}
use Rattle.aom_safety.proofs.Claimed.{declared_moved, going_differs, keep_fits, no_field_here, outside_differs, outside_less, stack_moved}
use Rattle.aom_safety.proofs.Items.{begins_well, length_forms}
use Rattle.aom_safety.proofs.OwnedObjects.{NoFieldHere, NoOwnedObjectHere, no_owned_object}
use Rattle.aom_safety.proofs.SemanticsLemmas.{held_lives, held_moved, named_moved, one_place, requested_moved, same_place-true, same_place_refl, tidy_moved}
use Rattle.aom_safety.proofs.Straight.{frames_reworded, At, Law, fits_unowning, fitted, receiver_held_relocated}
use Rattle.aom_safety.proofs.Straight.{kind_fits, no_word, relabel, settle, top, well, words_set}
use Rattle.aom_safety.proofs.Things.{stands_object}
use Rattle.aom_safety.proofs.ReceiverHolding.{counts_line, receiver_conforms_role}
use Rattle.aom_safety.proofs.RolesLemmas.{itself, stands_itself, through}
use Rattle.aom_roles.specs.Families.{descends}
use Rattle.aom_safety.specs.Claims.{Ending, Dispatching, Dying, Layer, Mark, Method, Unwinding, claim}
use Rattle.aom_safety.specs.Claims.{declared, declared_field, forms, receiver_claim, items_of, own_field, tasks_of}
use Rattle.aom_link_conditions.specs.Roles.{destructor_of, role_of}
use Rattle.aom_semantics.specs.Destruction.{destructor_frame, destructed, begun, begun_by}
use Rattle.aom_safety.specs.Laws.{IsWired}
use Rattle.aom_semantics.specs.Effects.{applied, deletes}
use Rattle.aom_semantics.specs.Objects.{is_no_message}
use Rattle.aom_semantics.specs.Places.{In_service, Queued, service_of, Cell, Elsewhere, Entry, Field, Going, Object, Place, Register}
use Rattle.aom_semantics.specs.Places.{Root, NoDuplicates, changed, held, moved, named, requested, same_place, seen, Session}
use Rattle.aom_semantics.specs.State.{Closing, Destroy, AtRoot, Choice, Frame, Receiver, Inside}
use Rattle.aom_semantics.specs.State.{Run, OwnedObject, State, Static, next, set_word, thing_holder, word}
use Rattle.aom_safety.specs.WellTyped.{view_holder, IsOverDying, Now, IsOwnedChain, NoOwnedObjectAt, NoOwnedObjectIn, SomeOwned}
use Rattle.aom_safety.specs.WellTyped.{AllUndo, Back, Caught, Fits, Gone, Good, ReceiverConforms, ReceiverIsHeld, IsOfFamily}
use Rattle.aom_safety.specs.WellTyped.{Leaves, NoneIn, NotIn, Returns, SomeIn, Stack, Unclaimed, WellTyped, WordFits, WorksOn}
use Rattle.aom_roles.specs.Shapes.{kind_of}
use Rattle.aom_safety.proofs.ConformingTo.{all_moved, known_plain, same_object, conforms_to_less, unworked_rests}
use Rattle.aom_safety.specs.Requests.{AllConformTo, ConformsTo, Unworked, resting_in, states_claim, thing_kind, works_at}
use Rattle.aom_roles.specs.States.{last_of, states_of}
use Rattle.aom_semantics.specs.Servers.{is_server}
use Rattle.aom_roles.specs.Classes.{sessions_in, sessions_of}
use Rattle.aom_image.specs.declared.class.ClassKind.{ClassKind}
use Rattle.aom_roles.specs.Roles.{is_service, is_cancel}
use Rattle.aom_safety.proofs.Attending.{plain_claim}

-- no layer works on that cell, or claims anything of its fields but what is declared
pub record Untouched (p : Image) (k : ℕ → Kind) (n : ℕ) (ls : List Layer) : Type 0 where
  pub some : SomeIn n ls → ⊥
  pub unclaimed : Unclaimed p k n ls
  pub none_in : NoneIn n ls
  pub unworked : Unworked n ls
  pub sessions : (d : Place → Kind) (c : ℕ) → claim p d ls (Elsewhere (Session n c)) ≡ d (Elsewhere (Session n c))

-- a server whose sessions go first is the cell that goes below
ending_apart : (x : Object) (n : ℕ) (ls : List Layer) → IsOverDying x ls → Unworked n ls → (x.name == n) ≡ false
ending_apart x n y same u = grind arith

pub eqb_comm : (a b : ℕ) → (a == b) ≡ (b == a)
eqb_comm a b = grind (arith, nat_tests, cases_Bool (a == b), eq-eqb b a, eqb-true a b, ne_eqb b a, eq-eqb a b)

module _ (p : Image) (t : Typing) (cs : List Cell) (q : Place) (o : Object) (no_duplicates : NoDuplicates cs) (there : held cs q ≡ Some o) where
  pub other_name : (from : Place) (x : Object) → held cs from ≡ Some x → same_place q from ≡ false → (x.name == o.name) ≡ false
  other_name from x h e = ne_eqb x.name o.name (λ same. true≢false (grind (arith, nat_tests, one_place, same_place_refl)))

  pub untouched_method : (k : ℕ → Kind) (fr : Frame) (sh : AbstractState) (ls : List Layer) → ((x : Object) (from : Place) → fr.receiver ≡ Inside x from →
      NoFieldHere q from) → Outside q ls → ReceiverIsHeld p cs ls fr.receiver → Untouched p k o.name ls → Untouched p k o.name (Method fr sh ∷ ls)
  untouched_method k fr sh ls aside out receiver_held u = go receiver_held
    where
      Result : Receiver → Type 0
      Result receiver = (WorksOn o.name receiver → ⊥) × ((f : ℕ) → receiver_claim p (holder_of p fr.method) receiver sh o.name f (k f) ≡ k f) × NotIn o.name receiver
          × (works_at o.name receiver ≡ false)

      of : (receiver : Receiver) → fr.receiver ≡ receiver → ReceiverIsHeld p cs ls receiver → Result receiver
      of Static same h = (λ x. x, λ f. refl, tt, refl)
      of AtRoot same h = (λ x. x, λ f. refl, tt, refl)
      of (Inside x from) same h =
          let e = other_name from x h.there (outside_differs q from ls out (aside x from same) h.below) in
          (λ same. true≢false (sym (eq-eqb x.name o.name same) ∙ e), λ f. ap (λ b. cond b (own_field (field_thing p (holder_of p fr.method) f) (field sh f) (k f)) (k f)) e, grind arith, e)

      go : ReceiverIsHeld p cs ls fr.receiver → Untouched p k o.name (Method fr sh ∷ ls)
      go h = let r = of fr.receiver refl h in record {
        some = λ s. ⊎_elim r.0 u.some s;
        unclaimed = λ f. ap (λ x. receiver_claim p (holder_of p fr.method) fr.receiver sh o.name f x) (u.unclaimed f) ∙ r.1 f;
        none_in = (r.2, u.none_in);
        unworked = (r.3, u.unworked);
        sessions = u.sessions;
      }

  -- it does not sit, nor does any in its fields
  unseated : (xs : List OwnedObject) → NoOwnedObjectHere q xs → IsOwnedChain cs xs → (SomeOwned o.name xs → ⊥) × NoOwnedObjectIn o.name xs
  unseated xs h s = go xs (no_owned_object cs q xs h s) s
    where
      go : (xs : List OwnedObject) → NoOwnedObjectAt q xs → IsOwnedChain cs xs → (SomeOwned o.name xs → ⊥) × NoOwnedObjectIn o.name xs
      go [] h s = (λ x. x, tt)
      go (x ∷ xs) h s =
          let above = go xs h.1 s.1 in
          (λ some. ⊎_elim (λ same. true≢false (sym (eq-eqb x.object.name o.name same) ∙ other_name x.place x.object s.0.0 h.0)) above.0 some, (grind arith, above.1))

  -- the close of a session with what sits is none with it
  pub untouched : (k : ℕ → Kind) (ls : List Layer) (back : Back) → Outside q ls → Stack p t cs back ls → Untouched p k o.name ls
  untouched k [] back out s = record { some = λ x. x; unclaimed = λ f. refl; none_in = tt; unworked = tt; sessions = λ d c. refl }
  untouched k (Method fr sh ∷ ls) back out s = grind (
    arith,
    nat_tests,
    untouched_method k fr sh ls,
    no_field_here q fr,
    outside_less q (Method fr sh) ls out,
    untouched k ls (Returns fr.method fr.receiver) (outside_less q (Method fr sh) ls out) s.4,
  )
  untouched k (Mark gv ∷ ls) back out s =
      let u = untouched k ls (Caught gv) (outside_less q (Mark gv) ls out) s.1 in
      record { some = u.some; unclaimed = u.unclaimed; none_in = u.none_in; unworked = u.unworked; sessions = u.sessions }
  untouched k (Dying x ∷ ls) back out s =
      let u = untouched k ls Gone (outside_less q (Dying x) ls out) s.2 in
      record {
        some = u.some;
        unclaimed = λ f. ap (λ y. cond (x.name == o.name) Null y) (u.unclaimed f)
            ∙ ap (λ b. cond b Null (k f)) (other_name (Going (length (tasks_of ls))) x s.0.1 (going_differs q x ls out));
        none_in = u.none_in;
        unworked = (other_name (Going (length (tasks_of ls))) x s.0.1 (going_differs q x ls out), u.unworked);
        sessions = λ d c. ap (λ b. cond b Null (claim p d ls (Elsewhere (Session o.name c))))
            (other_name (Going (length (tasks_of ls))) x s.0.1 (going_differs q x ls out)) ∙ u.sessions d c;
      }
  untouched k (Dispatching w owned_chain ∷ ls) back out s =
      let h = unseated owned_chain (no_owned_object_outside q w owned_chain ls out) s.2 in
      rw s.1 (record {
        some = λ x. ⊎_elim h.0 (λ y. y) x;
        unclaimed = λ f. refl;
        none_in = (h.1, tt);
        unworked = tt;
        sessions = λ d c. grind (arith, nat_tests, ne_eqb);
      })
  untouched k (Ending x left ∷ ls) back out s =
      let u = untouched k ls Now (outside_less q (Ending x left) ls out) s.3 in
      let apart = ending_apart x o.name ls s.2 u.unworked in
      record {
        some = u.some;
        unclaimed = grind (arith, nat_tests);
        none_in = u.none_in;
        unworked = u.unworked;
        sessions = grind (arith, nat_tests);
      }
  untouched k (Unwinding code es ∷ ls) back out s =
      let u = untouched k ls Leaves (outside_less q (Unwinding code es) ls out) s.1 in
      record { some = u.some; unclaimed = u.unclaimed; none_in = u.none_in; unworked = u.unworked; sessions = u.sessions }

-- what the link has found of a destructor in the line of a thing: it is of the thing's class, or of one above it
pub record Destroys (p : Image) (x : Thing) (m : ℕ) : Type 0 where
  pub there : IsSome (method_at p m)
  pub role : method_role p m ≡ Some Destruct
  pub holder : ReceiverConforms p (thing_holder x) (holder_of p m)
  pub family : (c : ℕ) × (x ≡ An_object_of c) × IsOfFamily p c m
  pub stays : leaves p m ≡ false
  pub quiet : is_quiet p m ≡ true
  pub gives : gives_of p m ≡ Nothing
  pub arguments : arguments_of p m ≡ []
  pub begins : before_of p m ≡ states_of (thing_kind p x)
  pub ends : after_of p m ≡ last_of (thing_kind p x)

-- the destructor of a class, of what descends from the class
pub destroys_by : (p : Image) → IsWired p → (c d m : ℕ) → descends p c d ≡ true → role_of p d Destruct ≡ Some m → Destroys p (An_object_of c) m
destroys_by p wired c d m above e =
    let w = wired.destructor d m e in
    let of : IsOfFamily p c m = record { class = w.2.class; of = w.2.of; above = through p c d w.2.class above w.2.above } in
    let kind = sym (wired.family.kinds c d above) in
    record {
      there = w.0;
      role = w.1;
      holder = receiver_conforms_role p wired.family (An_object_of c) c m refl of (ap (λ r. holder_by r (Some of.class)) w.1);
      family = (c, refl, of);
      stays = w.3;
      quiet = w.4;
      gives = w.5;
      arguments = w.6;
      begins = (wired.destructs d m e).0 ∙ ap states_of kind;
      ends = (wired.destructs d m e).1 ∙ ap last_of kind;
    }

pub destroys : (p : Image) → IsWired p → (x : Thing) (m : ℕ) → destructor_of p x ≡ Some m → Destroys p x m
destroys p wired (An_object_of c) m e = destroys_by p wired c c m (itself p c) e
destroys p wired Message m e = cc

-- the first of a line is of a class that has all the thing's fields
first_fields : (p : Image) → IsWired p → (x : Thing) (m : ℕ) → destructor_of p x ≡ Some m → (f : ℕ) →
    field_thing p (thing_holder x) f ≡ field_thing p (holder_of p m) f
first_fields p wired x m e f = grind arith

-- what has no destructor may rest as it goes
undestructed : (p : Image) → IsWired p → (x : Thing) → destructor_of p x ≡ None → last_of (thing_kind p x) ≡ states_of (thing_kind p x)
unfolding kind_of last_of states_of
undestructed p wired x e = grind arith

-- with no arguments nothing is known of the registers as a method begins, and of the fields only where it constructs or is main
pub entry_registers : (p : Image) (m : ℕ) → arguments_of p m ≡ [] → (i : ℕ) → register (entry_shape p m) i ≡ Unset
entry_registers p m e i = ap (λ xs. at Unset (map argument_kind xs) i) e

pub at_alike : (n : ℕ) (x : FieldState) (i : ℕ) → at x (replicate n x) i ≡ x
at_alike (suc n) x (suc i) = at_alike n x i
at_alike _ x _ = refl

destruct_fields : (p : Image) (m : ℕ) → method_role p m ≡ Some Destruct → (f : ℕ) → field (entry_shape p m) f ≡ Perhaps
destruct_fields p m e f = ap (λ r. at Perhaps (entry_fields r) f) e ∙ at_alike 8 Perhaps f

-- claimed once more at the place of a destruction
abbrev Dies : Image → List Cell → Object → List Layer → Place → Kind
Dies p cs o ls = changed (claim p (declared p cs) ls) (Going (length (tasks_of ls))) (Own o.thing Ready)

pub unset_only : {k : Kind} → Weaker k Unset → k ≡ Unset
unset_only alike = refl

pub perhaps_only : {x : FieldState} → WeakerFilling x Perhaps → x ≡ Perhaps
perhaps_only alike_filling = refl

-- and with no session of its own any more
abbrev pub Bare : Image → List Cell → Object → List Layer → Place → Kind
Bare p cs o ls (Register f i) = Dies p cs o ls (Register f i)
Bare p cs o ls (Entry k) = Dies p cs o ls (Entry k)
Bare p cs o ls (Field n f) = Dies p cs o ls (Field n f)
Bare p cs o ls (Going k) = Dies p cs o ls (Going k)
Bare p cs o ls (Elsewhere Root) = Dies p cs o ls (Elsewhere Root)
Bare p cs o ls (Elsewhere (Session m c)) = cond (o.name == m) Null (claim p (declared p cs) ls (Elsewhere (Session m c)))
Bare p cs o ls (Elsewhere In_service) = Dies p cs o ls (Elsewhere In_service)
Bare p cs o ls (Elsewhere (Queued m k)) = Dies p cs o ls (Elsewhere (Queued m k))

-- the objects of a server's class may rest as they go
pub server_last : (k : Option ClassKind) → is_some (sessions_in k) ≡ true → last_of k ≡ states_of k
unfolding last_of states_of sessions_in sessions_of
server_last x e = grind arith

module _ (p : Image) (t : Typing) (linked : IsWired p) (typed : IsTyped p t) (cs : List Cell) (o : Object) (ls : List Layer)
    (no_duplicates : NoDuplicates cs) (stack : Stack p t cs Gone ls) (there : held cs (Going (length (tasks_of ls))) ≡ Some o) (lives : named cs o.name ≡ Some o)
    (apart : Untouched p (λ f. filled (field_thing p (thing_holder o.thing) f) Perhaps) o.name ls) (conforms_to : AllConformTo p cs ls) where
  fields_claim : (f : ℕ) → claim p (declared p cs) ls (Field o.name f) ≡ filled (field_thing p (thing_holder o.thing) f) Perhaps
  fields_claim f = claim_unclaimed p (declared p cs) ls o.name f (λ f. filled (field_thing p (thing_holder o.thing) f) Perhaps) apart.unclaimed
      (ap (λ x. declared_field p x f) lives)

  -- the object rests as it begins to go
  rested : ConformsTo (thing_kind p o.thing) (resting_in (states_of (thing_kind p o.thing))) (requested cs o.name)
  rested = subst (λ k. ConformsTo (thing_kind p o.thing) k (requested cs o.name)) (unworked_rests p o ls apart.unworked) (conforms_to o lives)

  -- with no session of its own any more
  module _ (fits : (r : Place) → Fits p (seen cs) (held cs r) (Bare p cs o ls r)) where
    fields_fit : (n f : ℕ) → (o.name == n) ≡ true → Fits p (seen cs) (held cs (Field n f)) (filled (field_thing p (thing_holder o.thing) f) Perhaps)
    fields_fit n f e = grind (arith, nat_tests, eqb-true o.name n e, fields_claim f)

    -- with no destructor
    bare : destructor_of p o.thing ≡ None → (r : Place) → Fits p (seen cs) (held cs r) (claim p (declared p cs) (Dying o ∷ ls) r)
    bare none (Field n f) = grind (arith, nat_tests, fields_fit n f)
    bare none x = grind arith

    -- with one
    clothed : (m height : ℕ) (after : AbstractState) → Destroys p o.thing m →
        ((f : ℕ) → field_thing p (holder_of p m) f ≡ None → held cs (Field o.name f) ≡ None) → IsImpliedBy after (entry_shape p m) → (r : Place) →
        Fits p (seen cs) (held cs r) (claim p (declared p cs) (Method (destructor_frame p m o (length (tasks_of ls)) height) after ∷ Dying o ∷ ls) r)
    clothed m height after is others w (Register f i) =
        grind (arith, nat_tests, unset_only, entry_registers p m is.arguments i, fits_unowning p, claim_register_above p cs ls f i, eqb-true)
    clothed m height after is others w (Field n f) = grind (arith, nat_tests, perhaps_only, destruct_fields p m is.role f, fields_fit n f, eqb-true o.name n)
    clothed m height after is others w (Elsewhere Root) = fits (Elsewhere Root)
    clothed m height after is others w (Elsewhere In_service) = grind (arith, nat_tests, plain_claim)
    clothed m height after is others w (Elsewhere w') = fits (Elsewhere w')
    clothed m height after is others w _ = grind (arith, nat_tests)

    -- and all others are as they were
    -- so one of the line begins, where the fields that its class does not declare are null
    pub begins_line : (m : ℕ) → Destroys p o.thing m → ((f : ℕ) → field_thing p (holder_of p m) f ≡ None → held cs (Field o.name f) ≡ None) →
        (s : State) (height : ℕ) → height ≡ length (items_of ls) → s.cells ≡ cs → s.tasks ≡ Run
        (destructor_frame p m o (length (tasks_of ls)) height) ∷ Destroy ∷ tasks_of ls → forms s.items ≡ items_of ls → AllUndo p s.items → WellTyped p t s
    begins_line m d others s height high cells tasks items undo_operations =
        let leads = typed.entry m d.there in
        let w = leads.2 in
        let fr = destructor_frame p m o (length (tasks_of ls)) height in
        let works : holder_of p m ≡ Member d.family.2.class = grind (arith, nat_tests) in
        let good : Good p t cs (Method fr leads.0 ∷ Dying o ∷ ls) = record {
          stack = (
            leads.1,
            record {
              words = grind (arith, nat_tests, unset_only, entry_registers);
              holder = d.holder;
              view = counts_line p o.thing d.family.0 m d.family.1 d.family.2 works;
              height = high;
              alone = λ e. absurd (true≢false (sym e ∙ ap is_cancel d.role));
              message = (λ e. absurd (true≢false (sym e ∙ ap is_service d.role)), λ served. absurd served);
            },
            record { there = there; lives = lives; below = omega arith; ready = grind (arith, nat_tests, eq-eqb) },
            (tt, apart.none_in, (λ f some. apart.unclaimed f, ap view_holder d.family.2.of ∙ sym works), apart.unworked),
            ((lives, there), (d.stays, refl, ap is_destruct d.role, d.gives, d.ends, d.quiet, d.family.0, d.family.1, d.family.2), stack),
          );
          fits = clothed m height leads.0 d others w;
          conforms_to = grind (arith, nat_tests, same_object, there, known_plain, conforms_to_less, rested);
          no_duplicates = no_duplicates;
        } in
        begins_well p t cs fr leads.0 (Dying o ∷ ls) s w.entries good cells tasks items undo_operations

    -- so the first one begins
    pub destruct : (s : State) (height : ℕ) → height ≡ length (items_of ls) →
        s.cells ≡ cs → s.tasks ≡ destructed p o height (tasks_of ls) → forms s.items ≡ items_of ls → AllUndo p s.items → WellTyped p t s
    destruct s height high cells tasks items undo_operations = go (destructor_of p o.thing) refl tasks
      where
        go : (d : Option ℕ) → destructor_of p o.thing ≡ d → s.tasks ≡ begun_by p d o height (tasks_of ls) → WellTyped p t s
        go None e tasks = record {
          layers = Dying o ∷ ls;
          tasks = tasks;
          items = items;
          undo_operations = undo_operations;
          good = subst (λ cs. Good p t cs (Dying o ∷ ls)) (sym cells) (record {
            stack = ((lives, there), tt, stack);
            fits = bare e;
            conforms_to = grind (arith, nat_tests, same_object, there, rested, undestructed p linked o.thing e);
            no_duplicates = no_duplicates;
          });
        }
        go (Some m) e tasks = begins_line m (destroys p linked o.thing m e) (others m e) s height high cells tasks items undo_operations
          where
            others : (m : ℕ) → destructor_of p o.thing ≡ Some m → (f : ℕ) → field_thing p (holder_of p m) f ≡ None → held cs (Field o.name f) ≡ None
            others m e f none = fits_unowning p (seen cs) _ Null refl (subst (λ y. Fits p (seen cs) (held cs (Field o.name f)) (filled y Perhaps))
                (first_fields p linked o.thing m e f ∙ none) (fields_fit o.name f (eq-eqb o.name o.name refl)))

  -- with its sessions
  module _ (fits : (r : Place) → Fits p (seen cs) (held cs r) (Dies p cs o ls r)) where
    -- so a destruction begins
    pub begin : (s : State) (height : ℕ) → height ≡ length (items_of ls) → s.cells ≡ cs → s.tasks ≡ begun p o height (tasks_of ls) →
        forms s.items ≡ items_of ls → AllUndo p s.items → WellTyped p t s
    begin s height high cells tasks items undo_operations = go (is_server p o.thing) refl tasks
      where
        left : List ℕ
        left = (service_of cs o.name).sessions

        rests : is_server p o.thing ≡ true → AllConformTo p cs (Dying o ∷ ls)
        rests server x lives' = at_name (o.name == x.name) refl
          where
            at_name : (b : Bool) → (o.name == x.name) ≡ b →
                ConformsTo (thing_kind p x.thing) (cond b (resting_in (last_of (thing_kind p x.thing))) (states_claim p x ls)) (requested cs x.name)
            at_name true e =
                subst (λ y. ConformsTo (thing_kind p y.thing) (resting_in (last_of (thing_kind p y.thing))) (requested cs y.name)) (same_object cs o x lives lives'
                e) (subst (λ n. ConformsTo (thing_kind p o.thing) (resting_in n) (requested cs o.name)) (sym (server_last (thing_kind p o.thing) server)) rested)
            at_name false e = conforms_to x lives'

        go : (b : Bool) → is_server p o.thing ≡ b → s.tasks ≡ cond b (Closing ∷ Destroy ∷ tasks_of ls) (destructed p o height (tasks_of ls)) → WellTyped p t s
        go false plain tasks = destruct (grind (arith, nat_tests, eqb-true)) s height high cells tasks items undo_operations
        go true server tasks = record {
          layers = Ending o left ∷ Dying o ∷ ls;
          tasks = tasks;
          items = items;
          undo_operations = undo_operations;
          good = subst (λ cs'. Good p t cs' (Ending o left ∷ Dying o ∷ ls)) (sym cells) (record {
            stack = (record { server = server; lives = lives; listed = λ c h. h }, tt, refl, ((lives, there), tt, stack));
            fits = grind (arith, nat_tests, eqb-true, fields_claim);
            conforms_to = rests server;
            no_duplicates = no_duplicates;
          });
        }

-- a thing goes from q to the place of its destruction
module _ (p : Image) (t : Typing) (cs : List Cell) (o : Object) (q : Place) (ls ls' : List Layer)
    (fits : (r : Place) → Fits p (seen cs) (held cs r) (claim p (declared p cs) ls r)) (there : held cs q ≡ Some o)
    (same : length (tasks_of ls) ≤ length (tasks_of ls'))
    (claims : (r : Place) → claim p (declared p cs) ls' r ≡ changed (claim p (declared p cs) ls) q Null r) where
  pub no_going : held cs (Going (length (tasks_of ls'))) ≡ None
  no_going = grind (arith, nat_tests, fits_unowning p, claim_going_above p cs ls)

  pub goes_there : held (moved q (Going (length (tasks_of ls'))) cs) (Going (length (tasks_of ls'))) ≡ Some o
  goes_there = grind (arith, nat_tests, held_moved cs q, no_going, same_place_refl, there)

  pub goes_fitting : (r : Place) → Fits p (seen (moved q (Going (length (tasks_of ls'))) cs))
      (held (moved q (Going (length (tasks_of ls'))) cs) r) (Dies p (moved q (Going (length (tasks_of ls'))) cs) o ls' r)
  goes_fitting r = rw (declared_moved p cs q g)
      (go (same_place g r) refl (keep_fits p (seen cs) (seen cs') (claim p (declared p cs) ls) (changed (changed (claim p (declared p cs) ls) q Null) g
      (claim p (declared p cs) ls q)) q g (λ r. held_moved cs q g r no_going) (requested_moved cs q g) (λ r. refl) (λ r x e k f. refl) fits r))
    where
      g : Place
      g = Going (length (tasks_of ls'))

      cs' : List Cell
      cs' = moved q g cs

      go : (b : Bool) → same_place g r ≡ b → Fits p (seen cs') (held cs' r) (cond b (claim p (declared p cs) ls q)
          (changed (claim p (declared p cs) ls) q Null r)) → Fits p (seen cs') (held cs' r) (cond b (Own o.thing Ready) (claim p (declared p cs) ls' r))
      go true e f =
          subst (λ x. Fits p (seen cs') (held cs' x) (Own o.thing Ready)) (same_place-true g r e) (grind (arith, nat_tests, cs', goes_there, stands_itself))
      go false e f = subst (λ k. Fits p (seen cs') (held cs' r) k) (sym (claims r)) f

  -- so its destruction begins
  pub goes_well : IsWired p → IsTyped p t → NoDuplicates cs → Stack p t (moved q (Going (length (tasks_of ls'))) cs) Gone ls' → Untouched p
      (λ f. filled (field_thing p (thing_holder o.thing) f) Perhaps) o.name ls' → AllConformTo p cs ls' → (s : State) (height : ℕ) → height ≡ length (items_of ls') →
      s.cells ≡ moved q (Going (length (tasks_of ls'))) cs → s.tasks ≡ begun p o height (tasks_of ls') → forms s.items ≡ items_of ls' →
      AllUndo p s.items → WellTyped p t s
  goes_well wired typed no_duplicates stack apart conforms_to s height high cells tasks items undo_operations =
      grind (arith, nat_tests, begin, tidy_moved, no_going, goes_there, named_moved, held_lives, there, all_moved, goes_fitting)

module _ (p : Image) (t : Typing) (c : Choice) (s : State) (fr : Frame) (sh : AbstractState) (ls : List Layer) (has_task : At p t s fr sh ls) where
  pub law_delete : IsWired p → IsTyped p t → (a : ℕ) → Law p t c s fr sh ls has_task (Delete a)
  law_delete linked typed a n leads = ((ap is_none none, (no_message (held s.cells (top ls a)) (register sh a) n.0 (kind_fits p t c s fr sh ls has_task a), tt)), go (held s.cells (top ls a)) refl)
    where
      no_message : (o : Option Object) (k : Kind) → may_be_destroyed k ≡ true → Fits p (seen s.cells) o k → is_no_message o ≡ true
      no_message x k e f = grind (arith, nat_tests, stands_object p)

      cs : List Cell
      cs = s.cells

      none : word fr a ≡ None
      none = no_word p t c s fr sh ls has_task a (grind arith)

      fr' : Frame
      fr' = set_word fr a None

      sh' : AbstractState
      sh' = set_register sh a Null

      words : (i : ℕ) → WordFits (word (set_word fr a None) i) (register (set_register sh a Null) i)
      words = words_set fr.words sh a None Null has_task.good.stack.1.words refl

      claims : (r : Place) → claim p (declared p cs) (Method fr' sh' ∷ ls) r ≡ changed (claim p (declared p cs) (Method fr sh ∷ ls)) (top ls a) Null r
      claims r = claim_frame p (declared p cs) fr fr' sh' ls r refl refl ∙ claim-set_register p (declared p cs) fr sh ls a Null r

      go : (x : Option Object) → held s.cells (top ls a) ≡ x → WellTyped p t (applied p fr (tasks_of ls) s (deletes fr x a))
      go None e = well p t c s fr sh ls has_task (applied p fr (tasks_of ls) s (deletes fr None a)) (next fr') sh' refl has_task.items has_task.undo_operations
          (settle p t cs (next fr') sh' ls (grind (arith, nat_tests, relabel, cs, fr', sh', top, fitted, claim-set_register, words)) leads.0)
      go (Some o) e =
          let q = top ls a in
          let g = Going (length (Run fr ∷ tasks_of ls)) in
          let before = Method fr sh ∷ ls in
          let below = Method fr' sh' ∷ ls in
          let free = no_going p t cs o q before below has_task.good.fits e (omega arith) claims in
          let receiver_held = receiver_held_relocated p cs q g ls fr.receiver free (omega arith) (omega arith) (λ o from e. (tt, tt)) has_task.good.stack.2 in
          let k : ℕ → Kind = λ f. filled (field_thing p (thing_holder o.thing) f) Perhaps in
          goes_well p t cs o q before below has_task.good.fits e (omega arith) claims linked typed has_task.good.no_duplicates
          (leads.0, frames_reworded has_task.good.stack.1 words, receiver_held, has_task.good.stack.3, stack_moved p t cs q g ls _ free (omega arith) (omega arith) has_task.good.stack.4)
          (untouched_method p t cs q o has_task.good.no_duplicates e k fr' sh' ls (λ x from e. tt) (omega arith) has_task.good.stack.2
          (untouched p t cs q o has_task.good.no_duplicates e k ls _ (omega arith) has_task.good.stack.4)) has_task.good.conforms_to (applied p fr (tasks_of ls) s
          (deletes fr (Some o) a)) (length s.items) (sym (length_forms s.items) ∙ ap length has_task.items) refl refl has_task.items has_task.undo_operations

  -- the instruction of this file by its law
  abbrev pub of_destruction : IsWired p → IsTyped p t → (i : Instr) → Option (Law p t c s fr sh ls has_task i)
  of_destruction wired typed (Delete a) = Some (law_delete wired typed a)
  of_destruction wired typed _ = None
