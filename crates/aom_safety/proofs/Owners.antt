-- In a well-typed state each cell has one living owner, and following owners ends: by what the layers claim of the owner.
use Rattle.std.proofs.lemmas.Bool.Decides.{nat_tests}
use Rattle.std.proofs.Common.{Bool, List, None, Option, Some, [], ap, arith, cond, false, length, refl, subst}
use Rattle.std.proofs.Common.{suc, sym, true, zero, ℕ, ⊎_elim, ◌+◌, ◌<◌, ◌==◌, ◌∙◌, ◌∷◌, ◌≡◌, ◌≤◌}
use Rattle.aom_safety.proofs.ImageLemmas.{false_given, nil_given, some_given}
use Rattle.std.proofs.lemmas.Bool.{cases_lt, eqb-true, ne_eqb}
use Rattle.std.proofs.lemmas.Option.{slice_get_within}
use Rattle.std.specs.Prelude.{IsSome, is_some, option_map}
use Rattle.aom_image.specs.Image.{Image}
use Rattle.aom_image.specs.Views.{class_at, fields_in}
use Rattle.aom_image.specs.declared.method.Thing.{Thing}
use Rattle.aom_image.specs.declared.method.Thing.TheVariants.{Message, Object as An_object_of}
use Rattle.aom_roles.specs.Classes.{kind_in, sessions_at, sessions_in}
use Rattle.aom_roles.specs.Shapes.{kind_of}
use Rattle.aom_abstract_state.specs.Kinds.{field, filled}
use Rattle.aom_roles.specs.Things.{holder_of, Program, field_thing, is_subtype}
use Rattle.aom_typing_rules.specs.Typing.{Typing}
use Rattle.aom_abstract_state.specs.declared.kind.CleanupEntry.{CleanupEntry}
use Rattle.aom_abstract_state.specs.declared.kind.FieldState.{FieldState}
use Rattle.aom_abstract_state.specs.declared.kind.FieldState.TheVariants.{Full, Perhaps}
use Rattle.aom_abstract_state.specs.declared.kind.Kind.{Kind}
use Rattle.aom_abstract_state.specs.declared.kind.Kind.TheVariants.{Maybe, Null, Own}
use Rattle.aom_safety.proofs.Claimed.{claim_entry_above, claim_register_above}
use Rattle.aom_safety.proofs.Items.{length_forms}
use Rattle.aom_safety.proofs.SemanticsLemmas.{found, of_name, same_place-true, same_place_refl}
use Rattle.aom_safety.proofs.ReceiverHolding.{stands_session}
use Rattle.aom_safety.proofs.Things.{serving_class, stands_message}
use Rattle.aom_safety.specs.Claims.{own_field, Dispatching, Dying, Ending, Layer, Mark, Mark_form, Method, Object_form, Unwinding, claim}
use Rattle.aom_safety.specs.Claims.{delivered, serves, declared, entry_claim, form, forms, receiver_claim, is_of_root, items_of, objects, task_of, tasks_of}
use Rattle.aom_safety.specs.Laws.{EndsEmpty, EndsOwned, IsWired}
use Rattle.aom_semantics.specs.Owned.{AllOwned, Ends, HasRegisters, HasService, IsObjects, Lives, NoneGoes, Owned}
use Rattle.aom_semantics.specs.Owned.{at_entry, at_register, at_root, at_service, by_cell, by_server, over}
use Rattle.aom_semantics.specs.Places.{Cell, Elsewhere, Entry, Field, Going, Object, Place, Register, Root, CellView}
use Rattle.aom_semantics.specs.Places.{NoDuplicates, held, named, seen, service_of, Session, In_service, Queued}
use Rattle.aom_safety.specs.Registers.{AllInRange, IsInRange}
use Rattle.aom_semantics.specs.Servers.{has_message, has_session, message_thing, session_thing}
use Rattle.aom_semantics.specs.State.{receiver_holder, AtRoot, Receiver, Inside, Item, State, Static, thing_holder}
use Rattle.aom_safety.specs.WellTyped.{Back, Caught, Fits, Gone, ReceiverConforms, ReceiverIsHeld, IsServed, Leaves, Now, Returns, Stack, WellTyped}

-- what a kind of an owning place says of the thing
abbrev pub HasThing : Kind → Thing → Type 0
HasThing (Own c a) x = x ≡ c
HasThing (Maybe c a) x = x ≡ c
HasThing _ x = ⊥

-- what an owning place is claimed to own, and the thing that is there in its place
abbrev pub MayOverride : Image → Kind → Thing → Type 0
MayOverride p k x = (y : Thing) × HasThing k y × (is_subtype p x y ≡ true)

pub fits_thing : (p : Image) (h : CellView) (o : Object) (k : Kind) → Fits p h (Some o) k → MayOverride p k o.thing
fits_thing p h o x f = grind arith

-- the first cell is held by its owner
held_first : (c : Cell) (cs : List Cell) → held (c ∷ cs) c.owner ≡ Some c.object
held_first c cs = ap (λ b. cond b (Some c.object) (held cs c.owner)) (same_place_refl c.owner)

-- what the other cells hold is held in all
pub later : (cs : List Cell) (c : Cell) (q : Place) (o : Object) → NoDuplicates (c ∷ cs) → held cs q ≡ Some o → held (c ∷ cs) q ≡ Some o
later cs c q o t h = grind (arith, nat_tests, same_place-true c.owner q)

-- a cell that is named is held somewhere
pub named_held : (cs : List Cell) (n : ℕ) (o : Object) → NoDuplicates cs → named cs n ≡ Some o → (q : Place) × (held cs q ≡ Some o)
named_held cs n o t e = found (of_name n) o (λ cs. NoDuplicates cs → (q : Place) × (held cs q ≡ Some o))
    (λ c cs at is t. (c.owner, held_first c cs ∙ ap (λ x. Some x) is)) (λ c cs other e rest t. let w = rest t.2 in (w.0, later cs c w.0 o t w.1)) cs e t

-- what is claimed to be filled is declared for a thing
filled_thing : (k : Option Thing) (y : FieldState) (x : Thing) → HasThing (filled k y) x → k ≡ Some x
filled_thing k y x h = grind arith

-- and is so where a test holds
filled_where : (b : Bool) (k : Option Thing) (x : Thing) → HasThing (cond b (filled k Full) Null) x → (b ≡ true) × (k ≡ Some x)
filled_where b k x h = grind arith

-- what is claimed under a test to be null is claimed below it
below_null : (b : Bool) (k : Kind) (x : Thing) → HasThing (cond b Null k) x → HasThing k x
below_null b k x h = false_given (λ b. HasThing (cond b Null k) x) b h (λ h. h) (λ _ h. h)

-- what is declared of a field, by the cell that has it
declared_thing_of : (p : Image) (cs : List Cell) (n f : ℕ) (c : Thing) →
    HasThing (declared p cs (Field n f)) c → (o : Object) × (named cs n ≡ Some o) × (field_thing p (thing_holder o.thing) f ≡ Some c)
declared_thing_of p cs n f c h = grind (arith, nat_tests)

pub field_thing_of : (p : Image) (t : Typing) (cs : List Cell) (ls : List Layer) (back : Back) (n f : ℕ) (c : Thing) → Stack p t cs back ls →
    HasThing (claim p (declared p cs) ls (Field n f)) c → (o : Object) × (named cs n ≡ Some o) × (field_thing p (thing_holder o.thing) f ≡ Some c)
field_thing_of p t cs [] back n f c s h = declared_thing_of p cs n f c h
field_thing_of p t cs (Method fr sh ∷ ls) back n f c s h = go fr.receiver s.1.holder s.2 (field_thing_of p t cs ls (Returns fr.method fr.receiver) n f c s.4) h
  where
    go : (receiver : Receiver) → ReceiverConforms p (receiver_holder receiver) (holder_of p fr.method) → ReceiverIsHeld p cs ls receiver → (HasThing (claim p (declared p cs) ls (Field n f)) c →
        (o : Object) × (named cs n ≡ Some o) × (field_thing p (thing_holder o.thing) f ≡ Some c)) → HasThing (receiver_claim p (holder_of p fr.method) receiver sh n f
        (claim p (declared p cs) ls (Field n f))) c → (o : Object) × (named cs n ≡ Some o) × (field_thing p (thing_holder o.thing) f ≡ Some c)
    go Static receiver_conforms hs ih h = ih h
    go AtRoot receiver_conforms hs ih h = ih h
    go (Inside o from) receiver_conforms hs ih h = inside (o.name == n) refl (field_thing p (holder_of p fr.method) f) refl h
      where
        inside : (b : Bool) → (o.name == n) ≡ b → (own : Option Thing) → field_thing p (holder_of p fr.method) f ≡ own →
            HasThing (cond b (own_field own (field sh f) (claim p (declared p cs) ls (Field n f))) (claim p (declared p cs) ls (Field n f))) c →
            (o : Object) × (named cs n ≡ Some o) × (field_thing p (thing_holder o.thing) f ≡ Some c)
        inside true e (Some x) is h =
            (o, ap (λ m. named cs m) (sym (eqb-true o.name n e)) ∙ hs.lives, receiver_conforms.fields f c (is ∙ filled_thing (Some x) (field sh f) c h))
        inside true e None is h = ih h
        inside false e own is h = ih h
field_thing_of p t cs (Mark gv ∷ ls) back n f c s h = field_thing_of p t cs ls (Caught gv) n f c s.1 h
field_thing_of p t cs (Ending o left ∷ ls) back n f c s h = grind (arith, nat_tests, field_thing_of p t cs ls Now n f c s.3, eqb-true o.name n, filled_thing)
field_thing_of p t cs (Unwinding code es ∷ ls) back n f c s h = field_thing_of p t cs ls Leaves n f c s.1 h
field_thing_of p t cs (Dispatching w owned_chain ∷ ls) back n f c s h = grind (arith, nat_tests, declared_thing_of)
field_thing_of p t cs (Dying o ∷ ls) back n f c s h = grind (arith, nat_tests, field_thing_of p t cs ls Gone n f c s.2, below_null (o.name == n))

-- ---- sessions and messages

-- of a server that stands it is the session of a client that is among its sessions
abbrev pub IsSessionAt : Image → List Cell → ℕ → ℕ → Thing → Type 0
IsSessionAt p cs n c x = (o : Object) × (named cs n ≡ Some o) × (has_session (service_of cs n) c ≡ true) × (session_thing p (Some o) ≡ Some x)

declared_session_of : (p : Image) (cs : List Cell) (n c : ℕ) (x : Thing) → HasThing (declared p cs (Elsewhere (Session n c))) x → IsSessionAt p cs n c x
declared_session_of p cs n c x h = grind (arith, nat_tests, found, filled_where, some_given)

-- where a close is served its session is claimed no more
pub session_thing_of : (p : Image) (t : Typing) (cs : List Cell) (ls : List Layer) (back : Back) (n c : ℕ) (x : Thing) → Stack p t cs back ls →
    HasThing (claim p (declared p cs) ls (Elsewhere (Session n c))) x → IsSessionAt p cs n c x
session_thing_of p t cs [] back n c x s h = declared_session_of p cs n c x h
session_thing_of p t cs (Method fr sh ∷ ls) back n c x s h = session_thing_of p t cs ls (Returns fr.method fr.receiver) n c x s.4 h
session_thing_of p t cs (Mark gv ∷ ls) back n c x s h = session_thing_of p t cs ls (Caught gv) n c x s.1 h
session_thing_of p t cs (Unwinding code es ∷ ls) back n c x s h = session_thing_of p t cs ls Leaves n c x s.1 h
session_thing_of p t cs (Dispatching d owned_chain ∷ ls) back n c x s h = grind (arith, nat_tests, declared_session_of p cs n c x, below_null)
session_thing_of p t cs (Dying o ∷ ls) back n c x s h = grind (arith, nat_tests, session_thing_of p t cs ls Gone n c x s.2, below_null (o.name == n))
session_thing_of p t cs (Ending o left ∷ ls) back n c x s h =
    grind (arith, nat_tests, session_thing_of p t cs ls Now n c x s.3, eqb-true o.name n, found, filled_where)

-- a message that waits is in the queue of a server that stands
abbrev pub IsQueuedAt : Image → List Cell → ℕ → ℕ → Thing → Type 0
IsQueuedAt p cs n m x = (o : Object) × (named cs n ≡ Some o) × (has_message (service_of cs n) m ≡ true) × (message_thing p (Some o) ≡ Some x)

pub queued_thing_of : (p : Image) (cs : List Cell) (ls : List Layer) (n m : ℕ) (x : Thing) →
    HasThing (claim p (declared p cs) ls (Elsewhere (Queued n m))) x → IsQueuedAt p cs n m x
queued_thing_of p cs [] n m x h = grind (arith, nat_tests, found, filled_where, some_given)
queued_thing_of p cs (l ∷ ls) n m x h = queued_thing_of p cs ls n m x h

-- a message is served under a dispatch that serves it
served_below : (ls : List Layer) → IsServed ls → HasService (tasks_of ls)
served_below ls h = grind arith

pub service_lives : (p : Image) (t : Typing) (cs : List Cell) (ls : List Layer) (back : Back) (x : Thing) →
    Stack p t cs back ls → HasThing (claim p (declared p cs) ls (Elsewhere In_service)) x → HasService (tasks_of ls)
service_lives p t cs [] back x s h = absurd h
service_lives p t cs (Method fr sh ∷ ls) back x s h = go (serves p fr.method) refl (service_lives p t cs ls (Returns fr.method fr.receiver) x s.4) h
  where
    go : (b : Bool) → serves p fr.method ≡ b → (HasThing (claim p (declared p cs) ls (Elsewhere In_service)) x → HasService (tasks_of ls)) →
        HasThing (cond b (delivered sh.message_state) (claim p (declared p cs) ls (Elsewhere In_service))) x → HasService (tasks_of ls)
    go true e below h = served_below ls (s.1.message.0 e)
    go false e below h = below h
service_lives p t cs (Mark gv ∷ ls) back x s h = service_lives p t cs ls (Caught gv) x s.1 h
service_lives p t cs (Dying o ∷ ls) back x s h = service_lives p t cs ls Gone x s.2 h
service_lives p t cs (Ending o left ∷ ls) back x s h = service_lives p t cs ls Now x s.3 h
service_lives p t cs (Unwinding code es ∷ ls) back x s h = service_lives p t cs ls Leaves x s.1 h
service_lives p t cs (Dispatching d owned_chain ∷ ls) back x s h = grind (arith, nat_tests)

-- ---- the places that are claimed to own live

over_below : {A : Type 0} (x : A) (xs : List A) (k : ℕ) → k < length xs → over (x ∷ xs) k ≡ over xs k
over_below x xs k lt = ap (λ b. cond b (Some x) (over xs k)) (ne_eqb (length xs) k (λ e. absurd (omega arith)))

module _ (p : Image) (cs : List Cell) (x : Thing) where
  abbrev Claims : List Layer → Place → Type 0
  Claims ls q = HasThing (claim p (declared p cs) ls q) x

  -- a null claim owns nothing
  unclaimed : (ls : List Layer) (q : Place) → claim p (declared p cs) ls q ≡ Null → Claims ls q → ⊥
  unclaimed ls q e h = subst (λ k. HasThing k x) e h

  register_below : (ls : List Layer) (f i : ℕ) → Claims ls (Register f i) → f < length (tasks_of ls)
  register_below ls f i h = grind (arith, nat_tests, unclaimed ls (Register f i), claim_register_above p cs ls f i, cases_lt f)

  entry_below : (ls : List Layer) (k : ℕ) → Claims ls (Entry k) → k < length (items_of ls)
  entry_below ls k h = ⊎_elim (λ lt. lt) (λ le. absurd (unclaimed ls (Entry k) (claim_entry_above p cs ls k le) h)) (cases_lt k (length (items_of ls)))

  -- another layer has no registers
  not_here : (l : Layer) (ls : List Layer) (f i : ℕ) → Claims ls (Register f i) → HasRegisters (over (tasks_of ls) f) → HasRegisters (over (tasks_of (l ∷ ls)) f)
  not_here l ls f i h r = subst (λ o. HasRegisters o) (sym (over_below (task_of l) (tasks_of ls) f (register_below ls f i h))) r

  registers_live : (ls : List Layer) (f i : ℕ) → Claims ls (Register f i) → HasRegisters (over (tasks_of ls) f)
  registers_live [] f i h = absurd h
  registers_live (Method fr sh ∷ ls) f i h = grind (arith, nat_tests, registers_live ls f i)
  registers_live (Mark gv ∷ ls) f i h = not_here (Mark gv) ls f i h (registers_live ls f i h)
  registers_live (Dying o ∷ ls) f i h = not_here (Dying o) ls f i h (registers_live ls f i h)
  registers_live (Ending o left ∷ ls) f i h = not_here (Ending o left) ls f i h (registers_live ls f i h)
  registers_live (Unwinding code es ∷ ls) f i h = not_here (Unwinding code es) ls f i h (registers_live ls f i h)
  registers_live (Dispatching w owned_chain ∷ ls) f i h = not_here (Dispatching w owned_chain) ls f i h (registers_live ls f i h)

  -- of a layer's own entries, over the items below them
  abbrev ClaimsOver : List CleanupEntry → List Layer → ℕ → Type 0
  ClaimsOver es ls k = HasThing (entry_claim es (items_of ls) k (claim p (declared p cs) ls (Entry k))) x

  entries_live : (es : List CleanupEntry) (ls : List Layer) (k : ℕ) → (Claims ls (Entry k) → over (items_of ls) k ≡ Some Object_form) → ClaimsOver es ls k →
      over (objects es (items_of ls)) k ≡ Some Object_form
  entries_live [] ls k below h = below h
  entries_live (e ∷ es) ls k below h = grind (arith, nat_tests, entries_live es ls k below)

  items_live : (ls : List Layer) (k : ℕ) → Claims ls (Entry k) → over (items_of ls) k ≡ Some Object_form
  items_live [] k h = absurd h
  items_live (Method fr sh ∷ ls) k h = entries_live sh.entries ls k (items_live ls k) h
  items_live (Mark gv ∷ ls) k h = over_below Mark_form (items_of ls) k (entry_below ls k h) ∙ items_live ls k h
  items_live (Unwinding code es ∷ ls) k h = entries_live es ls k (items_live ls k) h
  items_live (_ ∷ ls) k h = items_live ls k h

  -- the root is claimed where the image has one
  root_lives : (ls : List Layer) → Claims ls (Elsewhere Root) → IsSome (field_thing p Program 0)
  root_lives [] h = ap is_some (filled_thing (field_thing p Program 0) Perhaps x h)
  root_lives (Method fr sh ∷ ls) h = grind (arith, nat_tests, root_lives ls, filled_thing)
  root_lives (Dispatching d owned_chain ∷ ls) h = root_lives ls (below_null (is_of_root d) (claim p (declared p cs) ls (Elsewhere Root)) x h)
  root_lives (_ ∷ ls) h = root_lives ls h

-- an item of that form is an object's
form_over : (items : List Item) (k : ℕ) → over (forms items) k ≡ option_map form (over items k)
form_over [] k = refl
form_over (i ∷ items) k = grind (arith, nat_tests, length_forms items, form_over items k)

objects_item : (items : List Item) (k : ℕ) → over (forms items) k ≡ Some Object_form → IsObjects (over items k)
objects_item items k e = grind (arith, nat_tests, form_over items k)

-- with no destruction at hand nothing is on its way
none_going : (p : Image) (d : Place → Kind) (ls : List Layer) (k : ℕ) → NoneGoes (tasks_of ls) → claim p d ls (Going k) ≡ d (Going k)
none_going p d [] k clear = refl
none_going p d (Method fr sh ∷ ls) k clear = none_going p d ls k clear
none_going p d (Mark gv ∷ ls) k clear = none_going p d ls k clear
none_going p d (Unwinding code es ∷ ls) k clear = none_going p d ls k clear
none_going p d (Dispatching w owned_chain ∷ ls) k clear = none_going p d ls k clear
none_going p d _ k clear = absurd clear

-- ---- following owners ends

-- how far down a thing stands: messages own nothing, and what a class's fields may own is lighter
abbrev pub rank : (p : Image) → IsWired p → Thing → ℕ
rank p wired (An_object_of c) = suc (wired.family.weight c)
rank p wired Message = 0

pub lower_rank : (p : Image) (wired : IsWired p) (x y z : Thing) (f : ℕ) → field_thing p (thing_holder x) f ≡ Some y → is_subtype p z y ≡ true →
    rank p wired z < rank p wired x
lower_rank p wired x y z f e stands = grind arith

-- only classes that are there declare fields
pub declaring : (p : Image) (wired : IsWired p) (x y : Thing) (f : ℕ) → field_thing p (thing_holder x) f ≡ Some y → rank p wired x ≤ length p.classes
unfolding class_at fields_in
declaring p wired x y f e = grind (arith, nat_tests, some_given, slice_get_within p.classes)

-- what is at a server stands lower than it, and its class is there
module _ (p : Image) (wired : IsWired p) where
  serving_within : (c k : ℕ) → sessions_at p c ≡ Some k → suc (wired.family.weight c) ≤ length p.classes
  unfolding class_at kind_in sessions_in
  serving_within c k e = grind (arith, nat_tests, some_given, slice_get_within)

  abbrev IsLower : Thing → Thing → Type 0
  IsLower x y = (rank p wired x < rank p wired y) × (rank p wired y ≤ length p.classes)

  pub session_lower : (o : Object) (x : Thing) → session_thing p (Some o) ≡ Some x → IsLower x o.thing
  unfolding kind_of sessions_in
  session_lower o x e = grind (arith, nat_tests, serving_class p o.thing, serving_within)

  -- nothing else stands for the session of a server
  session_only : (o : Object) (y x : Thing) → session_thing p (Some o) ≡ Some y → is_subtype p x y ≡ true → x ≡ y
  unfolding kind_of sessions_in
  session_only o y x e stands = grind (arith, nat_tests, serving_class p o.thing, stands_session p wired.family)

  pub queued_lower : (o : Object) (x : Thing) → message_thing p (Some o) ≡ Some x → (x ≡ Message) × (IsLower x o.thing)
  queued_lower o x e = grind (arith, nat_tests, serving_class p o.thing, serving_within)

module _ (p : Image) (t : Typing) (wired : IsWired p) (s : State) (w : WellTyped p t s) where
  -- what is claimed to be at a place, for which stands what is there
  pub kind_at : (q : Place) (o : Object) → held s.cells q ≡ Some o → MayOverride p (claim p (declared p s.cells) w.layers q) o.thing
  kind_at q o e = fits_thing p (seen s.cells) o _ (subst (λ x. Fits p (seen s.cells) x (claim p (declared p s.cells) w.layers q)) e (w.good.fits q))

  pub at_session : (n c : ℕ) (o : Object) → held s.cells (Elsewhere (Session n c)) ≡ Some o → IsSessionAt p s.cells n c o.thing
  at_session n c o e =
      let y = kind_at (Elsewhere (Session n c)) o e in
      let its = session_thing_of p t s.cells w.layers Now n c y.0 w.good.stack y.1 in
      subst (λ z. IsSessionAt p s.cells n c z) (sym (session_only p wired its.0 y.0 o.thing its.3 y.2)) its

  pub in_queue : (n m : ℕ) (o : Object) → held s.cells (Elsewhere (Queued n m)) ≡ Some o → IsQueuedAt p s.cells n m o.thing
  in_queue n m o e =
      let y = kind_at (Elsewhere (Queued n m)) o e in
      let its = queued_thing_of p s.cells w.layers n m y.0 y.1 in
      let message = (queued_lower p wired its.0 y.0 its.3).0 in
      subst (λ z. IsQueuedAt p s.cells n m z) (message ∙ sym (stands_message p o.thing (subst (λ z. is_subtype p o.thing z ≡ true) message y.2))) its

module _ (p : Image) (t : Typing) (wired : IsWired p) (s : State) (w : WellTyped p t s) (clear : NoneGoes s.tasks) where
  -- nothing is owned by a destruction
  unowned_going : (k : ℕ) (o : Object) → held s.cells (Going k) ≡ Some o → ⊥
  unowned_going k o e = grind (arith, nat_tests, kind_at, unclaimed, none_going)

  lives : (q : Place) (o : Object) → IsInRange q → held s.cells q ≡ Some o → Lives p s q
  lives (Register f i) o fits e = (grind (arith, nat_tests, kind_at p t wired s w (Register f i) o e, registers_live p s.cells), fits)
  lives (Entry k) o fits e = objects_item s.items k (grind (arith, nat_tests, kind_at p t wired s w (Entry k) o e, items_live p s.cells))
  lives (Field n f) o fits e = let y = kind_at p t wired s w (Field n f) o e in let x = field_thing_of p t s.cells w.layers Now n f y.0 w.good.stack y.1 in
      (x.0, x.1, ap is_some x.2)
  lives (Elsewhere Root) o fits e = let y = kind_at p t wired s w (Elsewhere Root) o e in root_lives p s.cells y.0 w.layers y.1
  lives (Elsewhere (Session n c)) o fits e = let x = at_session p t wired s w n c o e in (x.0, x.1, x.2)
  lives (Elsewhere In_service) o fits e =
      rw w.tasks (let y = kind_at p t wired s w (Elsewhere In_service) o e in service_lives p t s.cells w.layers Now y.0 w.good.stack y.1)
  lives (Elsewhere (Queued n m)) o fits e = let x = in_queue p t wired s w n m o e in (x.0, x.1, x.2)
  lives (Going k) o fits e = absurd (unowned_going k o e)

  -- the owner stands higher, so that following owners ends
  ends_by : (fuel : ℕ) (q : Place) (o : Object) → held s.cells q ≡ Some o → length p.classes ≤ rank p wired o.thing + fuel → Ends s q
  ends_by fuel (Register f i) o e le = at_register
  ends_by fuel (Entry k) o e le = at_entry
  ends_by fuel (Elsewhere Root) o e le = at_root
  ends_by fuel (Elsewhere In_service) o e le = at_service
  ends_by fuel (Going k) o e le = absurd (unowned_going k o e)
  ends_by zero (Field n f) o e le =
      grind (arith, nat_tests, kind_at p t wired s w (Field n f) o e, field_thing_of p t s.cells w.layers Now n f, lower_rank p wired, declaring p wired)
  ends_by (suc fuel) (Field n f) o e le =
      let k = kind_at p t wired s w (Field n f) o e in
      let x = field_thing_of p t s.cells w.layers Now n f k.0 w.good.stack k.1 in
      let lower = lower_rank p wired x.0.thing k.0 o.thing f x.2 k.2 in
      let y = named_held s.cells n x.0 w.good.no_duplicates x.1 in
      by_cell x.0 y.0 x.1 y.1 (ends_by fuel y.0 x.0 y.1 (omega arith))
  ends_by zero (Elsewhere (Session n c)) o e le = let x = at_session p t wired s w n c o e in let lower = session_lower p wired x.0 o.thing x.3 in
      absurd (omega (arith, le, lower.0, lower.1))
  ends_by (suc fuel) (Elsewhere (Session n c)) o e le =
      let x = at_session p t wired s w n c o e in
      let lower = session_lower p wired x.0 o.thing x.3 in
      let y = named_held s.cells n x.0 w.good.no_duplicates x.1 in
      by_server x.0 y.0 refl x.1 y.1 (ends_by fuel y.0 x.0 y.1 (omega (arith, le, lower.0)))
  ends_by zero (Elsewhere (Queued n m)) o e le = let x = in_queue p t wired s w n m o e in let lower = (queued_lower p wired x.0 o.thing x.3).1 in
      absurd (omega (arith, le, lower.0, lower.1))
  ends_by (suc fuel) (Elsewhere (Queued n m)) o e le =
      let x = in_queue p t wired s w n m o e in
      let lower = (queued_lower p wired x.0 o.thing x.3).1 in
      let y = named_held s.cells n x.0 w.good.no_duplicates x.1 in
      by_server x.0 y.0 refl x.1 y.1 (ends_by fuel y.0 x.0 y.1 (omega (arith, le, lower.0)))

  pub ends : (q : Place) (o : Object) → held s.cells q ≡ Some o → Ends s q
  ends q o e = ends_by (length p.classes) q o e (omega arith)

  all_owned : (cs : List Cell) → ((q : Place) (o : Object) → held cs q ≡ Some o → held s.cells q ≡ Some o) → NoDuplicates cs → AllInRange cs → AllOwned p s cs
  all_owned [] up t' fits = tt
  all_owned (c ∷ cs) up t' fits =
      let e : held s.cells c.owner ≡ Some c.object = up c.owner c.object (held_first c cs) in
      ((lives c.owner c.object fits.0 e, ends c.owner c.object e), all_owned cs (λ q o h. up q o (later cs c q o t' h)) t'.2 fits.1)

  pub owned : AllInRange s.cells → Owned p s
  owned fits = record { each = all_owned s.cells (λ q o h. h) w.good.no_duplicates fits; alone = w.good.no_duplicates; settled = clear }

-- at a dispatch's end, and between dispatches
pub ends_owned : EndsOwned
ends_owned p t wired s w fits = search (arith, nat_tests, owned p t wired s w)

-- the layers of what is at hand
pub layers_none : (ls : List Layer) → tasks_of ls ≡ [] → ls ≡ []
layers_none ls e = nil_given (λ ls. tasks_of ls ≡ []) ls e (λ l ls e. cc) (λ none e. none)

-- with nothing at hand a place but a field or the root holds nothing, so that without a root nothing is held
module _ (p : Image) (t : Typing) (s : State) (w : WellTyped p t s) (idle : s.tasks ≡ []) (rootless : held s.cells (Elsewhere Root) ≡ None) where
  unheld : (q : Place) (o : Object) → declared p s.cells q ≡ Null → held s.cells q ≡ Some o → ⊥
  unheld q o null e = grind (arith, nat_tests, layers_none w.layers)

  nowhere : (q : Place) (o : Object) → Ends s q → held s.cells q ≡ Some o → ⊥
  nowhere q o (at_register {f = f} {i = i}) e = unheld (Register f i) o refl e
  nowhere q o (at_entry {k = k}) e = unheld (Entry k) o refl e
  nowhere q o at_root e = let clash : Some o ≡ None = sym e ∙ rootless in cc
  nowhere q o at_service e = unheld (Elsewhere In_service) o refl e
  nowhere q o (by_cell x r named there ends) e = nowhere r x ends there
  nowhere q o (by_server x r other named there ends) e = nowhere r x ends there

  none_left : IsWired p → (cs : List Cell) → s.cells ≡ cs → cs ≡ []
  none_left wired [] e = refl
  none_left wired (c ∷ cs) e = grind (arith, nat_tests, held_first c cs, nowhere c.owner c.object, ends p t wired s w)

pub ends_empty : EndsEmpty
ends_empty p t wired s w idle rootless = none_left p t s w idle rootless wired s.cells refl
