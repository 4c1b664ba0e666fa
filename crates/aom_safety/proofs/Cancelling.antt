-- The law of `cancel`: a request that is not active is left alone, and over the method that cancels the caller waits with its object idle.
use Rattle.std.proofs.lemmas.Bool.Decides.{nat_tests}
use Rattle.std.proofs.Common.{is_some, Bool, IsTrue, List, None, Option, Some, ap, arith, cond, false, inl}
use Rattle.std.proofs.Common.{length, refl, replicate, subst, suc, sym, true, ℕ, ◌==◌, ◌∙◌, ◌∷◌, ◌≡◌}
use Rattle.std.proofs.lemmas.Bool.{eq-eqb, eqb-true, ne_eqb, true≢false}
use Rattle.std.specs.Prelude.{bit_and, bit_or, not, ◌||◌}
use Rattle.aom_link_conditions.specs.Roles.{role_of}
use Rattle.aom_image.specs.Image.{Image}
use Rattle.aom_image.specs.Views.{has, instr_at, method_class, method_role}
use Rattle.aom_image.specs.declared.class.ClassKind.{ClassKind}
use Rattle.aom_image.specs.declared.method.Role.TheVariants.{Cancel as Cancel_role}
use Rattle.aom_image.specs.declared.method.Thing.{Thing}
use Rattle.aom_image.specs.declared.method.Thing.TheVariants.{Object as An_object_of}
use Rattle.aom_instructions.specs.declared.instr.Instr.{Instr}
use Rattle.aom_instructions.specs.declared.instr.Instr.TheVariants.{Cancel}
use Rattle.aom_roles.specs.Kinds.{is_active_kind}
use Rattle.aom_roles.specs.Roles.{is_service, is_cancel}
use Rattle.aom_safety.proofs.RolesLemmas.{through}
use Rattle.aom_roles.specs.Families.{descends}
use Rattle.aom_roles.specs.Shapes.{kind_of}
use Rattle.aom_roles.specs.States.{active, active_states, cancel_open, idle, server_states}
use Rattle.aom_typing_rules.specs.Requests.{after_cancel, once_cancelled, own_kind}
use Rattle.aom_typing_rules.specs.Typing.{IsTyped, Leads, Typing}
use Rattle.aom_safety.proofs.AbstractStateLemmas.{has_along, has_first, has_itself, has_second, transitive}
use Rattle.aom_abstract_state.specs.Arguments.{entry_fields, entry_shape}
use Rattle.aom_abstract_state.specs.Kinds.{field, filled, is_ready_kind, register}
use Rattle.aom_abstract_state.specs.Order.{IsImpliedBy, Weaker, WeakerFilling, alike, alike_filling, perhaps_empty, perhaps_full}
use Rattle.aom_abstract_state.specs.AbstractState.{AbstractState}
use Rattle.aom_roles.specs.Tables.{at}
use Rattle.aom_roles.specs.Things.{Member, field_thing, holder_by, holder_of}
use Rattle.aom_abstract_state.specs.declared.kind.FieldState.{FieldState}
use Rattle.aom_abstract_state.specs.declared.kind.FieldState.TheVariants.{Empty, Full, Perhaps}
use Rattle.aom_abstract_state.specs.declared.kind.Kind.TheVariants.{Null, Unset}
use Rattle.aom_safety.proofs.Callees.{below_more}
use Rattle.aom_safety.proofs.Claimed.{claim_in_view, OwnsNoMore, claim_from, claim_ready, claim_register_above, claim_weaker, fits_weaker}
use Rattle.aom_safety.proofs.Destroying.{at_alike, entry_registers, perhaps_only, unset_only}
use Rattle.aom_safety.proofs.Items.{length_forms}
use Rattle.aom_safety.proofs.SemanticsLemmas.{one_place}
use Rattle.aom_safety.proofs.Requests.{OfObject, active_receiver, active_listed, has_common, in_state, its, learned, main_of_none, of_object, conforms_to_in}
use Rattle.aom_safety.proofs.Storing.{Alike, fits_alike, receiver_held_alike, listed_still, on_some, requested_here, requested_there, request_updated_alike, stack_alike}
use Rattle.aom_safety.proofs.Straight.{frames_reworded, At, Law, fits_unowning, settle, stepped, well}
use Rattle.aom_safety.proofs.ConformingTo.{same_object}
use Rattle.aom_safety.proofs.ReceiverHolding.{receiver_conforms_family}
use Rattle.aom_safety.proofs.Waiting.{waits_in_view}
use Rattle.aom_safety.specs.Claims.{declared_field, own_field, serves, Layer, Method, claim, declared, receiver_claim, items_of, objects, tasks_of}
use Rattle.aom_semantics.specs.Calls.{result_register}
use Rattle.aom_semantics.specs.Effects.{applied, cancels_if}
use Rattle.aom_semantics.specs.Requests.{begun_cells, cancel_method, cancel_of, cancelling, in_phase, is_active}
use Rattle.aom_semantics.specs.Requests.{is_unsettled, on_request, own_request, request_updated}
use Rattle.aom_safety.specs.Laws.{IsWired}
use Rattle.aom_semantics.specs.Places.{In_service, Cell, Elsewhere, Entry, Field, Going, Object, Place, Register, Request, Root, held, requested, seen}
use Rattle.aom_safety.specs.Requests.{AllConformTo, Known, ConformsTo, known_at, state_of, states_claim, thing_kind, works_at}
use Rattle.aom_semantics.specs.State.{Choice, Frame, Receiver, Inside, State, frame_as, receiver_holder, next, thing_holder}
use Rattle.aom_safety.specs.WellTyped.{view_holder, InView, IsOfFamily, CountsAs, Fits, Good, Holds, ReceiverConforms, IsAlone}
use Rattle.aom_safety.specs.WellTyped.{IsApart, ReceiverIsHeld, NotIn, Returns, Stack, Stands, WellTyped, WordFits}
use Rattle.aom_safety.proofs.Attending.{plain_claim}

-- ---- what is known of a request

-- what is in one of these states is settled
settled_only : (r : Option Request) → IsTrue (has active_states (state_of r)) → not (in_phase is_unsettled r) ≡ true
settled_only x h = grind arith

-- and what is not active is in one of a server's
rests_only : (r : Option Request) → IsTrue (has active_states (state_of r)) → in_phase is_active r ≡ false → IsTrue (has server_states (state_of r))
rests_only x h e = grind arith

active_state : (r : Option Request) → in_phase is_active r ≡ true → state_of r ≡ active
active_state x e = grind arith

-- what is active is not being cancelled
uncancelled : (k : Option ClassKind) (n : Known) (r : Option Request) → is_active_kind k ≡ true → in_phase is_active r ≡ true → ConformsTo k n r → n.cancelled ≡ false
uncancelled x n y e a s = grind arith

-- and is so once its cancel begins
conforms_to_cancelling : (k : Option ClassKind) (states : ℕ) (n : Known) (r : Option Request) → is_active_kind k ≡ true → in_phase is_active r ≡ true →
    IsTrue (has states cancel_open) → ConformsTo k n r → ConformsTo k (record { states = states; cancelled = true }) (on_request cancelling r)
conforms_to_cancelling x states n y e a h s = grind arith

-- a state that is not active stays once it is cancelled, and an active one is idle
stays_cancelled : (states k : ℕ) → IsTrue (has (bit_and states server_states) k) → IsTrue (has (once_cancelled states) k)
stays_cancelled states k h = go (has states active)
  where
    x : ℕ
    x = bit_and states server_states

    go : (b : Bool) → IsTrue (has (cond b (bit_or x idle) x) k)
    go true = has_along (bit_or x idle) x k (has_first x idle) h
    go false = h

-- nothing is known of the fields
unknown : (x : FieldState) → WeakerFilling Perhaps x
unknown Empty = perhaps_empty
unknown Full = perhaps_full
unknown Perhaps = alike_filling

unknown_at : (i : ℕ) (x : FieldState) → WeakerFilling (at Perhaps (replicate 8 Perhaps) i) x
unknown_at i x = subst (λ y. WeakerFilling y x) (sym (at_alike 8 Perhaps i)) (unknown x)

-- what is cancelled counts as a class
cancelled_view : (p : Image) (view : Option ℕ) (m : ℕ) → cancel_of p view ≡ Some m → (v : ℕ) × (view ≡ Some v) × (role_of p v Cancel_role ≡ Some m)
cancelled_view p view m e = grind arith

-- what is active is an object
active_object : (p : Image) (x : Thing) → is_active_kind (thing_kind p x) ≡ true → (b : ℕ) × (x ≡ An_object_of b)
unfolding kind_of
active_object p x a = grind arith

-- a class of active objects has a method that cancels
has_cancel : (p : Image) → IsWired p → (v : ℕ) → is_active_kind (kind_of p (Some v)) ≡ true → role_of p v Cancel_role ≡ None → ⊥
has_cancel p wired v a e = let found = wired.cancel v a in let clash : Some found.0 ≡ None = sym found.1 ∙ e in cc

module _ (p : Image) (t : Typing) (wired : IsWired p) (typed : IsTyped p t) (c : Choice) (s : State) (fr : Frame) (sh : AbstractState) (ls : List Layer)
    (has_task : At p t s fr sh ls) (is_kind : is_active_kind (own_kind p fr.method) ≡ true) (leads : Leads t fr.method (suc fr.place) (after_cancel sh)) where
  abbrev it : OfObject p t (main_of_none p wired) c s fr sh ls has_task
  it = of_object p t (main_of_none p wired) c s fr sh ls has_task (active_listed (own_kind p fr.method) is_kind)

  abbrev request : Option Request
  request = own_request s.cells fr.receiver

  -- a request that is not active is left alone
  stays : IsTrue (has active_states (state_of request)) → in_phase is_active request ≡ false →
      WellTyped p t (applied p fr (tasks_of ls) s (cancels_if fr false None))
  stays within inactive =
      let listed = active_listed (own_kind p fr.method) is_kind in
      let states = once_cancelled sh.states in
      let sh' : AbstractState = record sh { states = states } in
      let here = conforms_to_in (own_kind p fr.method) (its p t (main_of_none p wired) c s fr sh ls has_task listed sh.states) request listed it.conforms_to in
      let known = stays_cancelled sh.states (state_of request) (grind (arith, nat_tests, has_common, rests_only)) in
      let less : IsImpliedBy (after_cancel sh) sh' =
      record { registers = λ i. alike; fields = λ i. unknown_at i (field sh i); entries = refl; states = has_itself states; message_state = refl } in
      well p t c s fr sh ls has_task _ (next fr) sh' refl has_task.items has_task.undo_operations
      (settle p t s.cells (next fr) sh' ls (stepped p t s.cells fr sh' ls (learned p t (main_of_none p wired) c s fr sh ls has_task listed states known))
      (leads.0, leads.1, transitive leads.0 (after_cancel sh) sh' leads.2 less))

  -- the method that cancels begins
  module _ (m : ℕ) (is_active_now : in_phase is_active request ≡ true) (its_method : cancel_method p fr ≡ Some m) where
    abbrev o : Object
    o = it.object

    abbrev cs' : List Cell
    cs' = begun_cells fr s.cells

    abbrev sh' : AbstractState
    sh' = record sh { fields = replicate 8 Perhaps; states = idle }

    abbrev over : List Layer
    over = Method fr sh' ∷ ls

    abbrev fr' : Frame
    fr' = frame_as m fr.receiver fr.view (length s.items)

    class : (v : ℕ) × (fr.view ≡ Some v) × (role_of p v Cancel_role ≡ Some m)
    class = cancelled_view p fr.view m its_method

    between : (c : ℕ) × (receiver_holder fr.receiver ≡ Member c) × (descends p c class.0 ≡ true) × (d : ℕ) × (holder_of p fr.method ≡ Member d)
        × (descends p class.0 d ≡ true)
    between = has_task.good.stack.1.view.between class.0 class.1

    abbrev role : method_role p m ≡ Some Cancel_role
    role = (wired.canceller class.0 m class.2).1

    abbrev is_so : is_cancel (method_role p m) ≡ true
    is_so = ap is_cancel role

    abbrev begins : Leads t m 0 (entry_shape p m)
    begins = typed.entry m (wired.canceller class.0 m class.2).0

    holds : Holds p s.cells ls o it.from
    holds = subst (λ h. ReceiverIsHeld p s.cells ls h) it.receiver has_task.good.stack.2

    apart : IsApart p fr.view fr.method (Inside o it.from) ls
    apart = subst (λ h. IsApart p fr.view fr.method h ls) it.receiver has_task.good.stack.3

    same_cells : Alike s.cells cs'
    same_cells = request_updated_alike s.cells fr.receiver (on_request cancelling request)

    here : requested cs' o.name ≡ on_request cancelling request
    here = subst (λ h. requested (request_updated s.cells h (on_request cancelling request)) o.name ≡ on_request cancelling request)
        (sym it.receiver) (requested_here s.cells o.name (on_request cancelling request) o it.lives)

    others : (n : ℕ) → (o.name == n) ≡ false → requested cs' n ≡ requested s.cells n
    others n other = subst (λ h. requested (request_updated s.cells h (on_request cancelling request)) n ≡ requested s.cells n)
        (sym it.receiver) (requested_there s.cells o.name n (on_request cancelling request) other)

    -- no place claims the object to be fresh
    unready : (q : Place) (x : Object) → held s.cells q ≡ Some x → is_ready_kind (claim p (declared p s.cells) over q) ≡ false → (o.name == x.name) ≡ false
    unready q x at fresh = ne_eqb o.name x.name (λ n.
        let same : it.from ≡ q = one_place s.cells it.from q o x has_task.good.no_duplicates holds.there at n in
        let ready = ap is_ready_kind (claim_from p (declared p s.cells) fr o it.from sh' ls it.receiver apart.0 holds.below)
        ∙ claim_ready p s.cells ls it.from holds.ready in
        true≢false (sym ready ∙ ap (λ q. is_ready_kind (claim p (declared p s.cells) over q)) same ∙ fresh))

    opened : OwnsNoMore sh' sh
    opened = record { registers = λ i. alike; fields = λ i. unknown_at i (field sh i); entries = refl; message_state = refl }

    base : (q : Place) → Fits p (seen cs') (held cs' q) (claim p (declared p cs') over q)
    base q = fits_alike p t s.cells cs' same_cells over q (λ x at fresh. others x.name (unready q x at fresh))
        (fits_weaker p (seen s.cells) (held s.cells q) (claim_weaker p (declared p s.cells) fr sh' sh ls q opened) (has_task.good.fits q))

    unset : (i : ℕ) → register begins.0 i ≡ Unset
    unset i = unset_only (subst (λ k. Weaker (register begins.0 i) k) (entry_registers p m (wired.canceller class.0 m class.2).3 i) (begins.2.registers i))

    unfilled : (f : ℕ) → field begins.0 f ≡ Perhaps
    unfilled f = perhaps_only (rw (ap (λ r. at Perhaps (entry_fields r) f) role ∙ at_alike 8 Perhaps f) at (begins.2.fields f))

    -- it is of the object's class, or of one above it
    family : IsOfFamily p class.0 m
    family = (wired.canceller class.0 m class.2).2

    works : holder_of p m ≡ Member family.class
    works = ap (λ r. holder_by r (method_class p m)) role ∙ ap (λ c. holder_by (Some Cancel_role) c) family.of

    holder : ReceiverConforms p (receiver_holder fr.receiver) (holder_of p m)
    holder = rw between.1 (rw works (receiver_conforms_family p wired.family between.0 family.class (through p between.0 class.0 family.class between.2 family.above)))

    own_holder : ReceiverConforms p (thing_holder o.thing) (holder_of p m)
    own_holder = subst (λ h. ReceiverConforms p (receiver_holder h) (holder_of p m)) it.receiver holder

    own_fields : InView p fr.view (λ f. filled (field_thing p (thing_holder o.thing) f) Perhaps) o.name over
    own_fields =
        let receiver_conforms = subst (λ h. ReceiverConforms p (receiver_holder h) (holder_of p fr.method)) it.receiver has_task.good.stack.1.holder in
        waits_in_view p fr o it.from it.receiver sh' ls receiver_conforms apart (λ f. at_alike 8 Perhaps f)

    -- it counts as it does for the method that cancels
    counts : CountsAs p (receiver_holder fr.receiver) fr.view (holder_of p m)
    counts = record {
      some = has_task.good.stack.1.view.some;
      between = λ v e.
          let same : class.0 ≡ v = let both = sym class.1 ∙ e in cc in
          (between.0, between.1, rw same at between.2, family.class, works, rw same at family.above);
      fields = λ f t is. ap (λ v. field_thing p (view_holder v) f) class.1
          ∙ wired.family.inherits class.0 family.class f t family.above (ap (λ h. field_thing p h f) (sym works) ∙ is);
    }

    fits : (q : Place) → Fits p (seen cs') (held cs' q) (claim p (declared p cs') (Method fr' begins.0 ∷ over) q)
    fits (Register f i) = go (length (tasks_of over) == f) refl (base (Register f i))
      where
        go : (b : Bool) → (length (tasks_of over) == f) ≡ b → Fits p (seen cs') (held cs' (Register f i)) (claim p (declared p cs') over (Register f i)) →
            Fits p (seen cs') (held cs' (Register f i)) (cond b (register begins.0 i) (claim p (declared p cs') over (Register f i)))
        go true e h =
            let none = fits_unowning p (seen cs') (held cs' (Register f i)) Null refl
            (subst (λ k. Fits p (seen cs') (held cs' (Register f i)) k) (claim_register_above p cs' over f i (omega (arith, eqb-true _ _ e))) h) in
            subst (λ k. Fits p (seen cs') (held cs' (Register f i)) k) (sym (unset i)) (subst (λ x. Fits p (seen cs') x Unset) (sym none) tt)
        go false e h = h
    fits (Entry k) = rw begins.2.entries (base (Entry k))
    fits (Field n f) =
        subst (λ h. Fits p (seen cs') (held cs' (Field n f)) (receiver_claim p (holder_of p m) h begins.0 n f (claim p (declared p cs') over (Field n f))))
        (sym it.receiver) (go (o.name == n) refl (field_thing p (holder_of p m) f) refl)
      where
        declares : is_some (field_thing p (view_holder fr.view) f) ≡ true →
            claim p (declared p cs') over (Field o.name f) ≡ filled (field_thing p (thing_holder o.thing) f) Perhaps
        declares some = claim_in_view p (declared p cs') over o.name f (λ f. filled (field_thing p (thing_holder o.thing) f) Perhaps) fr.view own_fields some
            (ap (λ y. declared_field p y f) (same_cells.named_so o.name ∙ it.lives))

        go : (b : Bool) → (o.name == n) ≡ b → (own : Option Thing) → field_thing p (holder_of p m) f ≡ own → Fits p (seen cs') (held cs' (Field n f))
            (cond b (own_field own (field begins.0 f) (claim p (declared p cs') over (Field n f))) (claim p (declared p cs') over (Field n f)))
        go true e (Some y) is = subst (λ n. Fits p (seen cs') (held cs' (Field n f)) (filled (Some y) (field begins.0 f)))
            (eqb-true o.name n e) (subst (λ x. Fits p (seen cs') (held cs' (Field o.name f)) (filled (Some y) x))
            (sym (unfilled f)) (subst (λ z. Fits p (seen cs') (held cs' (Field o.name f)) (filled z Perhaps)) (own_holder.fields f y is)
            (subst (λ k. Fits p (seen cs') (held cs' (Field o.name f)) k) (declares (ap is_some (counts.fields f y is))) (base (Field o.name f)))))
        go true e None is = base (Field n f)
        go false e own is = base (Field n f)
    fits (Elsewhere Root) = grind (arith, nat_tests, base (Elsewhere Root))
    fits (Elsewhere In_service) =
        rw (plain_claim (serves p m) begins.0 (claim p (declared p cs') over (Elsewhere In_service)) (ap is_service role)) (base (Elsewhere In_service))
    fits (Elsewhere w) = base (Elsewhere w)
    fits (Going k) = base (Going k)

    -- nothing cancels the object below
    alone : (states_claim p o over).cancelled ≡ false
    alone = go (works_at o.name fr.receiver)
      where
        below : Known
        below = states_claim p o ls

        none : (known_at p fr idle below).cancelled ≡ false
        none = uncancelled (own_kind p fr.method) (known_at p fr sh.states below) request is_kind is_active_now it.conforms_to

        rest : (x y : Bool) → (x || y) ≡ false → y ≡ false
        rest x y e = grind arith

        go : (b : Bool) → (cond b (known_at p fr idle below) below).cancelled ≡ false
        go true = none
        go false = rest (is_cancel (method_role p fr.method)) below.cancelled none

    conforms_to : AllConformTo p cs' (Method fr' begins.0 ∷ over)
    conforms_to x lives = subst (λ h. ConformsTo (thing_kind p x.thing) (claims h) (requested cs' x.name)) (sym it.receiver) (go (o.name == x.name) refl)
      where
        upper : Object → Bool → Known
        upper y b = cond b (known_at p fr idle (states_claim p y ls)) (states_claim p y ls)

        claims : Receiver → Known
        claims h = cond (works_at x.name h) (known_at p fr' begins.0.states (upper x (works_at x.name h))) (upper x (works_at x.name h))

        begun : IsTrue (has begins.0.states cancel_open)
        begun = subst (λ n. IsTrue (has begins.0.states n)) (wired.canceller class.0 m class.2).4 begins.2.states

        own_now : ConformsTo (thing_kind p o.thing) (known_at p fr' begins.0.states (upper o true)) (requested cs' o.name)
        own_now = subst (λ k. ConformsTo k (known_at p fr' begins.0.states (upper o true)) (requested cs' o.name)) (sym it.kind)
            (subst (λ b. ConformsTo (own_kind p fr.method) (record { states = begins.0.states; cancelled = b || (upper o true).cancelled }) (requested cs' o.name))
            (sym is_so) (subst (λ r. ConformsTo (own_kind p fr.method) (record { states = begins.0.states; cancelled = true }) r) (sym here) (conforms_to_cancelling
            (own_kind p fr.method) begins.0.states (known_at p fr sh.states (states_claim p o ls)) request is_kind is_active_now begun it.conforms_to)))

        go : (b : Bool) → (o.name == x.name) ≡ b →
            ConformsTo (thing_kind p x.thing) (cond b (known_at p fr' begins.0.states (upper x b)) (upper x b)) (requested cs' x.name)
        go true e = subst (λ y. ConformsTo (thing_kind p y.thing) (known_at p fr' begins.0.states (upper y true)) (requested cs' y.name))
            (same_object s.cells o x it.lives (sym (same_cells.named_so x.name) ∙ lives) e) own_now
        go false e =
            let below : Known = states_claim p x ls in
            let before = subst (λ h. ConformsTo (thing_kind p x.thing) (cond (works_at x.name h) (known_at p fr sh.states below) below) (requested s.cells x.name))
            it.receiver (has_task.good.conforms_to x (sym (same_cells.named_so x.name) ∙ lives)) in
            subst (λ r. ConformsTo (thing_kind p x.thing) below r) (sym (others x.name e)) (grind (arith, nat_tests))

    -- the caller waits, and finds its object idle
    stands : Stands p t (Returns m fr.receiver) fr sh'
    stands =
        let quiet = wired.cancels m role in
        let r = result_register (instr_at p fr.method fr.place) in
        let was : IsTrue (has sh.states active) = rw (active_state request is_active_now) at (conforms_to_in (own_kind p fr.method)
        (known_at p fr sh.states (states_claim p o ls)) request (active_listed (own_kind p fr.method) is_kind) it.conforms_to) in
        let less : IsImpliedBy (after_cancel sh) sh' = record {
          registers = λ i. alike;
          fields = λ i. alike_filling;
          entries = refl;
          states = grind (arith, nat_tests, has_second);
          message_state = refl;
        } in
        let on : Leads t fr.method (suc fr.place) sh' = (leads.0, leads.1, transitive leads.0 (after_cancel sh) sh' leads.2 less) in (
          λ may. absurd (true≢false (sym quiet.0 ∙ wired.quiets m may)),
          rw quiet.1 tt,
          rw quiet.1 on,
          rw it.receiver (λ w. rw is_so (has_itself idle)),
          λ q. quiet.0,
        )

    receiver_held : ReceiverIsHeld p cs' over fr.receiver
    receiver_held = subst (λ h. ReceiverIsHeld p cs' over h) (sym it.receiver) (record {
      there = same_cells.held_so it.from ∙ holds.there;
      lives = same_cells.named_so o.name ∙ holds.lives;
      below = below_more it.from fr sh' ls holds.below;
      ready = ap is_ready_kind (claim_from p (λ r. Null) fr o it.from sh' ls it.receiver apart.0 holds.below) ∙ holds.ready;
    })

    apart_over : IsApart p fr.view m fr.receiver over
    apart_over = subst (λ h. IsApart p fr.view m h over) (sym it.receiver) (
      apart.0,
      (subst (λ h. NotIn o.name h) (sym it.receiver) apart.0, apart.1),
      (own_fields, tt),
      inl (ap (λ h. works_at o.name h) it.receiver ∙ eq-eqb o.name o.name refl),
    )

    caller : Stack p t cs' (Returns m fr.receiver) over
    caller = (
      stands,
      frames_reworded has_task.good.stack.1 has_task.good.stack.1.words,
      receiver_held_alike p t s.cells cs' same_cells ls fr.receiver has_task.good.stack.2,
      has_task.good.stack.3,
      stack_alike p t s.cells cs' same_cells (grind (arith, nat_tests, listed_still, on_some)) ls _ has_task.good.stack.4,
    )

    good : Good p t cs' (Method fr' begins.0 ∷ over)
    good = record {
      stack = (
        begins.1,
        record {
          words = λ i. subst (λ k. WordFits None k) (sym (unset i)) tt;
          holder = holder;
          view = counts;
          height = sym (length_forms s.items) ∙ ap length has_task.items;
          alone = λ cancels. subst (λ h. IsAlone p h over) (sym it.receiver) alone;
          message = (λ serving. absurd (true≢false (sym serving ∙ ap is_service role)), λ served. absurd served);
        },
        receiver_held,
        apart_over,
        caller,
      );
      fits = fits;
      conforms_to = conforms_to;
      no_duplicates = same_cells.no_duplicates has_task.good.no_duplicates;
    }

    begun_well : WellTyped p t (applied p fr (tasks_of ls) s (cancels_if fr true (Some m)))
    begun_well = record {
      layers = Method fr' begins.0 ∷ over;
      tasks = refl;
      items = has_task.items ∙ ap (λ es. objects es (items_of over)) (sym begins.2.entries);
      undo_operations = has_task.undo_operations;
      good = good;
    }

module _ (p : Image) (t : Typing) (wired : IsWired p) (typed : IsTyped p t) (c : Choice) (s : State) (fr : Frame) (sh : AbstractState) (ls : List Layer)
    (has_task : At p t s fr sh ls) where
  pub law_cancel : Law p t c s fr sh ls has_task Cancel
  law_cancel n leads = ((active_receiver p t (main_of_none p wired) c s fr sh ls has_task n.0, (settled_only request within, tt)), go (in_phase is_active request) (cancel_method p fr) refl refl)
    where
      request : Option Request
      request = own_request s.cells fr.receiver

      it : OfObject p t (main_of_none p wired) c s fr sh ls has_task
      it = of_object p t (main_of_none p wired) c s fr sh ls has_task (active_listed (own_kind p fr.method) n.0)

      within : IsTrue (has active_states (state_of request))
      within = in_state p t (main_of_none p wired) c s fr sh ls has_task (active_listed (own_kind p fr.method) n.0) active_states n.1.0

      has_one : cancel_method p fr ≡ None → ⊥
      has_one e =
          let b = active_object p it.object.thing (ap is_active_kind it.kind ∙ n.0) in
          let viewed = has_task.good.stack.1.view.some b.0 (ap receiver_holder it.receiver ∙ ap thing_holder b.1) in
          let between = has_task.good.stack.1.view.between viewed.0 viewed.1 in
          let same : between.0 ≡ b.0 = let both = sym between.1 ∙ ap receiver_holder it.receiver ∙ ap thing_holder b.1 in cc in
          let kind : thing_kind p it.object.thing ≡ kind_of p (Some viewed.0) =
          ap (thing_kind p) b.1 ∙ ap (λ x. kind_of p (Some x)) (sym same) ∙ wired.family.kinds between.0 viewed.0 between.2 in
          has_cancel p wired viewed.0 (ap is_active_kind (sym kind ∙ it.kind) ∙ n.0) (ap (cancel_of p) (sym viewed.1) ∙ e)

      go : (b : Bool) (m : Option ℕ) → in_phase is_active request ≡ b → cancel_method p fr ≡ m → WellTyped p t (applied p fr (tasks_of ls) s (cancels_if fr b m))
      go true (Some m) a e = begun_well p t wired typed c s fr sh ls has_task n.0 leads.0 m a e
      go true None a e = absurd (has_one e)
      go false _ a e = stays p t wired typed c s fr sh ls has_task n.0 leads.0 within a

  -- the instruction of this file by its law
  abbrev pub of_cancel : (i : Instr) → Option (Law p t c s fr sh ls has_task i)
  of_cancel Cancel = Some law_cancel
  of_cancel _ = None
