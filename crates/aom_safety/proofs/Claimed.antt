-- How the claims change with the abstract state of the top method, and how they go on to hold.
use Rattle.std.proofs.lemmas.Bool.Decides.{nat_tests}
use Rattle.std.proofs.Common.{[], Bool, List, None, Option, Some, ap, arith, cond, false, length}
use Rattle.std.proofs.Common.{refl, subst, true, zero, ℕ, ℤ, ◌<◌, ◌==◌, ◌∙◌, ◌∷◌, ◌≡◌, ◌≤◌}
use Rattle.std.proofs.lemmas.Bool.{cases_Bool, eqb-true, ne_eqb}
use Rattle.std.specs.Prelude.{is_some}
use Rattle.aom_image.specs.Image.{Image}
use Rattle.aom_image.specs.declared.method.Gives.{Gives}
use Rattle.aom_image.specs.declared.method.Thing.{Thing}
use Rattle.aom_abstract_state.specs.Kinds.{entry_kind, field, filled, is_ready_kind, register, set_field, set_register}
use Rattle.aom_abstract_state.specs.Order.{IsImpliedBy, Weaker, WeakerFilling, alike, maybe_own, unset_null, unset_word}
use Rattle.aom_abstract_state.specs.AbstractState.{AbstractState}
use Rattle.aom_roles.specs.Tables.{at, set_extending}
use Rattle.aom_roles.specs.Things.{Holder, Program, field_thing, holder_of}
use Rattle.aom_safety.proofs.TypingRulesLemmas.{filled_more}
use Rattle.aom_typing_rules.specs.Typing.{Typing}
use Rattle.aom_abstract_state.specs.declared.kind.InitState.TheVariants.{Fresh, Ready}
use Rattle.aom_abstract_state.specs.declared.kind.CleanupEntry.{CleanupEntry}
use Rattle.aom_abstract_state.specs.declared.kind.FieldState.{FieldState}
use Rattle.aom_abstract_state.specs.declared.kind.FieldState.TheVariants.{Perhaps}
use Rattle.aom_abstract_state.specs.declared.kind.Kind.{Kind}
use Rattle.aom_abstract_state.specs.declared.kind.Kind.TheVariants.{Null, Own, Unset}
use Rattle.aom_safety.proofs.Services.{service_moved, attended_kept, sessions_kept}
use Rattle.aom_safety.proofs.OwnedObjects.{NoFieldHere, NoOwnedObjectHere, first_kept, sits_kept}
use Rattle.aom_safety.proofs.SemanticsLemmas.{at-set_extending, held_moved, named_moved, requested_moved, same_place-true, transfer}
use Rattle.aom_safety.specs.Claims.{is_of_root, Dispatching, Dying, Form, Layer, Mark, Method, Unwinding, claim, declared, entries_of, entry_claim, receiver_claim}
use Rattle.aom_safety.specs.Claims.{items_of, layer_claim, objects, own_field, root_claim, tasks_of, Ending, delivered, serves}
use Rattle.aom_semantics.specs.Places.{Service, Cell, Elsewhere, Entry, Field, Going, Object, Place, Register, Root}
use Rattle.aom_semantics.specs.Places.{CellView, changed, held, moved, named, same_place, Session, In_service}
use Rattle.aom_semantics.specs.State.{AtRoot, Dispatch, Frame, Receiver, Inside, OwnedObject, Static, field_place, receiver_holder}
use Rattle.aom_safety.specs.WellTyped.{view_holder, InView, Back, Caught, Fits, Gone, HasAge, Holds, IsBelow, ReceiverIsHeld, IsNoFieldOf}
use Rattle.aom_safety.specs.WellTyped.{Leaves, NoneFrom, NoneIn, Returns, Stack, Unclaimed, WordFits, by_field, Now}

-- a frame counts for the claims by its home and its method alone
pub claim_frame : (p : Image) (d : Place → Kind) (fr fr' : Frame) (sh : AbstractState) (ls : List Layer) (r : Place) → fr'.receiver ≡ fr.receiver → fr'.method ≡ fr.method →
    claim p d (Method fr' sh ∷ ls) r ≡ claim p d (Method fr sh ∷ ls) r
claim_frame p d fr fr' sh ls x e em = grind arith

pub claim-set_register : (p : Image) (d : Place → Kind) (fr : Frame) (sh : AbstractState) (ls : List Layer) (a : ℕ) (v : Kind) (r : Place) →
    claim p d (Method fr (set_register sh a v) ∷ ls) r ≡ changed (claim p d (Method fr sh ∷ ls)) (Register (length (tasks_of ls)) a) v r
claim-set_register p d fr sh ls a v x = grind (arith, nat_tests, at-set_extending Unset sh.registers a)

-- what a field is claimed to be, with another filling
filled_at : (thing : ℕ → Option Thing) (xs : List FieldState) (a : ℕ) (x : FieldState) (v : Kind) (f : ℕ) → filled (thing a) x ≡ v →
    filled (thing f) (at Perhaps (set_extending Perhaps xs a x) f) ≡ cond (a == f) v (filled (thing f) (at Perhaps xs f))
filled_at thing xs a x v f same = grind (arith, nat_tests, at-set_extending Perhaps xs a f x, eqb-true a f)

-- a field that the method's class declares is claimed as it is known
pub own_there : (x : Option Thing) (y : FieldState) (below : Kind) → is_some x ≡ true → own_field x y below ≡ filled x y
own_there x y below some = grind arith

own_at : (thing : ℕ → Option Thing) (xs : List FieldState) (a : ℕ) (x : FieldState) (v below : Kind) (f : ℕ) → is_some (thing a) ≡ true → filled (thing a) x ≡ v →
    own_field (thing f) (at Perhaps (set_extending Perhaps xs a x) f) below ≡ cond (a == f) v (own_field (thing f) (at Perhaps xs f) below)
own_at thing xs a x v below f some same = grind (arith, nat_tests, at-set_extending Perhaps xs a f x, eqb-true a f, own_there (thing a) x below some)

-- a field of the top method is claimed anew
pub claim-set_field :
    (p : Image) (d : Place → Kind) (fr : Frame) (receiver : Receiver) (sh : AbstractState) (ls : List Layer) (a : ℕ) (x : FieldState) (v : Kind) (r : Place) → fr.receiver ≡ receiver →
    field_thing p (receiver_holder receiver) a ≡ field_thing p (holder_of p fr.method) a → is_some (field_thing p (receiver_holder receiver) a) ≡ true → filled (field_thing p
    (receiver_holder receiver) a) x ≡ v → claim p d (Method fr (set_field sh a x) ∷ ls) r ≡ changed (claim p d (Method fr sh ∷ ls)) (field_place receiver a) v r
claim-set_field p d fr AtRoot sh ls zero x v r e own some same = grind (arith, nat_tests, filled_at)
claim-set_field p d fr (Inside o from) sh ls a x v r e own some same = grind (arith, nat_tests, own_at)
claim-set_field p d fr _ sh ls _ x v r e own some same = cc

-- one more entry, and one less
pub claim_push : (p : Image) (d : Place → Kind) (fr : Frame) (sh : AbstractState) (ls : List Layer) (v : CleanupEntry) (r : Place) → claim p d (Method fr
    (record sh { entries = v ∷ sh.entries }) ∷ ls) r ≡ changed (claim p d (Method fr sh ∷ ls)) (Entry (length (items_of (Method fr sh ∷ ls)))) (entry_kind v) r
claim_push p d fr sh ls v x = grind arith

pub own_weaker : (c : Option Thing) (below : Kind) {x y : FieldState} → WeakerFilling x y → Weaker (own_field c x below) (own_field c y below)
own_weaker (Some c) below w = filled_more (Some c) _ _ w
own_weaker None below w = alike

-- of what places own the first state says no more than the second
pub record OwnsNoMore (a b : AbstractState) : Type 0 where
  pub registers : (i : ℕ) → Weaker (register a i) (register b i)
  pub fields : (i : ℕ) → WeakerFilling (field a i) (field b i)
  pub entries : a.entries ≡ b.entries
  pub message_state : a.message_state ≡ b.message_state

pub owns_no_more : (a b : AbstractState) → IsImpliedBy a b → OwnsNoMore a b
owns_no_more a b w = record { registers = w.registers; fields = w.fields; entries = w.entries; message_state = w.message_state }

-- then it claims no more
pub claim_weaker : (p : Image) (d : Place → Kind) (fr : Frame) (a b : AbstractState) (ls : List Layer) (r : Place) → OwnsNoMore a b →
    Weaker (claim p d (Method fr a ∷ ls) r) (claim p d (Method fr b ∷ ls) r)
claim_weaker p d fr a b ls (Register f i) w = go (length (tasks_of ls) == f)
  where
    go : (x : Bool) → Weaker (cond x (register a i) (claim p d ls (Register f i))) (cond x (register b i) (claim p d ls (Register f i)))
    go true = w.registers i
    go false = alike
claim_weaker p d fr a b ls (Entry k) w = subst (λ es. Weaker (entry_claim a.entries (items_of ls) k (claim p d ls (Entry k)))
    (entry_claim es (items_of ls) k (claim p d ls (Entry k)))) w.entries alike
claim_weaker p d fr a b ls (Field n f) w = go fr.receiver
  where
    go : (h : Receiver) → Weaker (receiver_claim p (holder_of p fr.method) h a n f (claim p d ls (Field n f)))
        (receiver_claim p (holder_of p fr.method) h b n f (claim p d ls (Field n f)))
    go Static = alike
    go AtRoot = alike
    go (Inside o from) = inside (o.name == n)
      where
        inside : (x : Bool) →
            Weaker (cond x (own_field (field_thing p (holder_of p fr.method) f) (field a f) (claim p d ls (Field n f))) (claim p d ls (Field n f)))
            (cond x (own_field (field_thing p (holder_of p fr.method) f) (field b f) (claim p d ls (Field n f))) (claim p d ls (Field n f)))
        inside true = own_weaker (field_thing p (holder_of p fr.method) f) (claim p d ls (Field n f)) (w.fields f)
        inside false = alike
claim_weaker p d fr a b ls (Elsewhere Root) w = go fr.receiver
  where
    go : (h : Receiver) → Weaker (root_claim p h a (claim p d ls (Elsewhere Root))) (root_claim p h b (claim p d ls (Elsewhere Root)))
    go AtRoot = filled_more (field_thing p Program 0) _ _ (w.fields 0)
    go _ = alike
claim_weaker p d fr a b ls (Elsewhere In_service) w = subst (λ x. Weaker (cond (serves p fr.method) (delivered a.message_state)
    (claim p d ls (Elsewhere In_service))) (cond (serves p fr.method) (delivered x) (claim p d ls (Elsewhere In_service)))) w.message_state alike
claim_weaker p d fr a b ls _ w = alike

pub fits_weaker : (p : Image) (h : CellView) (o : Option Object) {a b : Kind} → Weaker a b → Fits p h o b → Fits p h o a
fits_weaker p h o alike f = f
fits_weaker p h (Some o) maybe_own f = f
fits_weaker p h (Some o) _ f = absurd f
fits_weaker p h _ _ f = tt

pub word_fits_weaker : (w : Option ℤ) {a b : Kind} → Weaker a b → WordFits w b → WordFits w a
word_fits_weaker w unset_word f = tt
word_fits_weaker w unset_null f = tt
word_fits_weaker w _ f = f

-- fresh cells stay fresh where no field of theirs is filled, and none is enlisted
pub fits_age : (p : Image) (h h' : CellView) (o : Option Object) (k : Kind) →
    ((x : Object) → o ≡ Some x → is_ready_kind k ≡ false → HasAge h x Fresh → HasAge h' x Fresh) → Fits p h o k → Fits p h' o k
fits_age p h h' x y g f = grind arith

-- a thing and its claim move together
pub keep_fits : (image : Image) (h h' : CellView) (k k' : Place → Kind) (p q : Place) → ((r : Place) → h'.holds r ≡ transfer p q h.holds r) →
    ((n : ℕ) → h'.requests n ≡ h.requests n) → ((r : Place) → k' r ≡ changed (changed k p Null) q (k p) r) →
    ((r : Place) (x : Object) → h.holds r ≡ Some x → is_ready_kind (k r) ≡ false → (f : ℕ) → same_place q (Field x.name f) ≡ false) →
    ((r : Place) → Fits image h (h.holds r) (k r)) → (r : Place) → Fits image h' (h'.holds r) (k' r)
keep_fits image h h' k k' p q eh requests ek apart fits r = rw (eh r) (rw (ek r) (go (same_place q r) (same_place p r)))
  where
    null : (s : Place) (x : Object) → h.holds s ≡ Some x → is_ready_kind (k s) ≡ false → (f : ℕ) → h.holds (Field x.name f) ≡ None → h'.holds (Field x.name f) ≡ None
    null s x e fresh f n = eh (Field x.name f) ∙ ap (λ b. cond b (h.holds p) (cond (same_place p (Field x.name f)) None (h.holds (Field x.name f))))
        (apart s x e fresh f) ∙ ap (λ v. cond (same_place p (Field x.name f)) None v) n ∙ both (same_place p (Field x.name f))
      where
        both : (b : Bool) → ◌≡◌ {A = Option Object} (cond b None None) None
        both true = refl
        both false = refl

    stays : (s : Place) (x : Object) → h.holds s ≡ Some x → is_ready_kind (k s) ≡ false → HasAge h x Fresh → HasAge h' x Fresh
    stays s x e fresh age = (λ f. null s x e fresh f (age.0 f), requests x.name ∙ age.1)

    go : (b c : Bool) → Fits image h' (cond b (h.holds p) (cond c None (h.holds r))) (cond b (k p) (cond c Null (k r)))
    go true c = fits_age image h h' (h.holds p) (k p) (stays p) (fits p)
    go false true = tt
    go false false = fits_age image h h' (h.holds r) (k r) (stays r) (fits r)

-- above the layers nothing is claimed
entries_above : (es : List CleanupEntry) (items : List Form) (k : ℕ) (below : Kind) → length (objects es items) ≤ k → entry_claim es items k below ≡ below
entries_above [] items k below le = refl
entries_above (x ∷ es) items k below le = grind (arith, nat_tests, ne_eqb, entries_above es items k below)

pub length_objects : (es : List CleanupEntry) (items : List Form) → length items ≤ length (objects es items)
length_objects [] items = omega arith
length_objects (x ∷ es) items = omega (arith, length_objects es items)

pub claim_entry_above : (p : Image) (cs : List Cell) (ls : List Layer) (k : ℕ) → length (items_of ls) ≤ k → claim p (declared p cs) ls (Entry k) ≡ Null
claim_entry_above p cs [] k le = refl
claim_entry_above p cs (Mark gv ∷ ls) k le = claim_entry_above p cs ls k (omega arith)
claim_entry_above p cs (Dispatching w owned_chain ∷ ls) k le = claim_entry_above p cs ls k (omega arith)
claim_entry_above p cs (Dying o ∷ ls) k le = claim_entry_above p cs ls k le
claim_entry_above p cs (Ending o left ∷ ls) k le = claim_entry_above p cs ls k le
claim_entry_above p cs (_ ∷ ls) k le = grind (arith, nat_tests, entries_above, claim_entry_above p cs ls k, length_objects)

pub declared_moved : (p : Image) (cs : List Cell) (a b : Place) → declared p (moved a b cs) ≡ declared p cs
declared_moved p cs a b = grind (arith, nat_tests, named_moved cs a b, service_moved cs a b)

-- a place of the top method, or above it
abbrev pub Outside : Place → List Layer → Type 0
Outside (Register f i) ls = length (tasks_of ls) ≤ f
Outside (Entry k) ls = length (items_of ls) ≤ k
Outside (Field n f) ls = NoneIn n ls
Outside (Elsewhere w) ls = NoneFrom (Elsewhere w) ls
Outside (Going k) ls = length (tasks_of ls) ≤ k

pub outside_less : (q : Place) (l : Layer) (ls : List Layer) → Outside q (l ∷ ls) → Outside q ls
outside_less x l ls h = grind (arith, nat_tests, length_objects)

-- then no seat is there
pub no_owned_object_outside : (q : Place) (d : Dispatch) (owned_chain : List OwnedObject) (ls : List Layer) → Outside q (Dispatching d owned_chain ∷ ls) → NoOwnedObjectHere q owned_chain
no_owned_object_outside x d owned_chain ls h = grind arith

-- no place is both
pub outside_differs : (q from : Place) (ls : List Layer) → Outside q ls → NoFieldHere q from → IsBelow from ls → same_place q from ≡ false
outside_differs q from ls h n b = grind (arith, nat_tests, cases_Bool, same_place-true q from, NoFieldHere q)

pub no_field_here : (q : Place) (fr : Frame) (o : Object) (from : Place) (sh : AbstractState) (ls : List Layer) → fr.receiver ≡ Inside o from →
    Outside q (Method fr sh ∷ ls) → NoFieldHere q from
no_field_here x fr o from sh ls e h = grind arith

pub holds_moved : (p : Image) (cs : List Cell) (a b : Place) (ls : List Layer) (o : Object) (from : Place) →
    held cs b ≡ None → same_place a from ≡ false → same_place b from ≡ false → Holds p cs ls o from → Holds p (moved a b cs) ls o from
holds_moved p cs a b ls o from free na nb h = search (arith, nat_tests, held_moved cs a b from free, named_moved cs a b o.name)

receiver_held_moved : (p : Image) (cs : List Cell) (a b : Place) (fr : Frame) (sh : AbstractState) (ls : List Layer) (receiver : Receiver) → fr.receiver ≡ receiver →
    held cs b ≡ None → Outside a (Method fr sh ∷ ls) → Outside b (Method fr sh ∷ ls) → ReceiverIsHeld p cs ls receiver → ReceiverIsHeld p (moved a b cs) ls receiver
receiver_held_moved p cs a b fr sh ls (Inside o from) e free oa ob h = holds_moved p cs a b ls o from free (outside_differs a from ls (outside_less a _ ls oa)
    (no_field_here a fr o from sh ls e oa) h.below) (outside_differs b from ls (outside_less b _ ls ob) (no_field_here b fr o from sh ls e ob) h.below) h
receiver_held_moved p cs a b fr sh ls x e free oa ob h = grind arith

pub going_differs : (r : Place) (o : Object) (ls : List Layer) → Outside r (Dying o ∷ ls) → same_place r (Going (length (tasks_of ls))) ≡ false
going_differs x o ls h = grind (arith, nat_tests, ne_eqb)

going_moved : (cs : List Cell) (a b : Place) (o : Object) (ls : List Layer) → held cs b ≡ None → Outside a (Dying o ∷ ls) →
    Outside b (Dying o ∷ ls) → held cs (Going (length (tasks_of ls))) ≡ Some o → held (moved a b cs) (Going (length (tasks_of ls))) ≡ Some o
going_moved cs a b o ls free oa ob e = grind (arith, nat_tests, held_moved cs a b, going_differs b o ls ob, going_differs a o ls oa)

pub stack_moved : (p : Image) (t : Typing) (cs : List Cell) (a b : Place) (ls : List Layer) (back : Back) →
    held cs b ≡ None → Outside a ls → Outside b ls → Stack p t cs back ls → Stack p t (moved a b cs) back ls
stack_moved p t cs a b [] back free oa ob s = s
stack_moved p t cs a b (Method fr sh ∷ ls) back free oa ob s =
    search (arith, nat_tests, receiver_held_moved p cs a b fr sh ls fr.receiver, stack_moved p t cs a b ls, outside_less a, outside_less b)
stack_moved p t cs a b (Mark gv ∷ ls) back free oa ob s = (s.0, grind (arith, nat_tests, stack_moved p t cs a b ls, outside_less))
stack_moved p t cs a b (Dispatching d owned_chain ∷ ls) back free oa ob s = (
  s.0,
  s.1,
  grind (arith, nat_tests, sits_kept, held_moved, named_moved, no_owned_object_outside),
  grind (arith, nat_tests, first_kept, requested_moved, no_owned_object_outside),
  attended_kept p cs (moved a b cs) (λ n. ap (λ (v : Service). v.sessions) (service_moved cs a b n)) d s.4,
)
stack_moved p t cs a b (Ending o left ∷ ls) back free oa ob s = (
  sessions_kept p cs (moved a b cs) (named_moved cs a b) (λ n. ap (λ (v : Service). v.sessions) (service_moved cs a b n)) o left s.0,
  s.1,
  s.2,
  stack_moved p t cs a b ls _ free (outside_less a (Ending o left) ls oa) (outside_less b (Ending o left) ls ob) s.3,
)
stack_moved p t cs a b (Unwinding code es ∷ ls) back free oa ob s = (s.0, grind (arith, nat_tests, stack_moved p t cs a b ls, outside_less))
stack_moved p t cs a b (Dying o ∷ ls) back free oa ob s =
    ((named_moved cs a b o.name ∙ s.0.0, going_moved cs a b o ls free oa ob s.0.1), s.1, grind (arith, nat_tests, stack_moved p t cs a b ls, outside_less))

-- what holds a method's cell is claimed as it was before the method was called
entries_below : (es : List CleanupEntry) (items : List Form) (k : ℕ) (below : Kind) → k < length items → entry_claim es items k below ≡ below
entries_below [] items k below lt = refl
entries_below (x ∷ es) items k below lt = grind (arith, nat_tests, ne_eqb, length_objects es items, entries_below es items k below lt)

pub claim_from : (p : Image) (d : Place → Kind) (fr : Frame) (o : Object) (from : Place) (sh : AbstractState) (ls : List Layer) →
    fr.receiver ≡ Inside o from → IsNoFieldOf o.name from → IsBelow from ls → claim p d (Method fr sh ∷ ls) from ≡ claim p d ls from
claim_from p d fr o x sh ls e n b = grind (arith, nat_tests, ne_eqb, entries_below sh.entries)

-- a layer's claims follow those below it
cond_rel : (R : Kind → Kind → Type 0) → ((k : Kind) → R k k) → (b : Bool) (z x y : Kind) → R x y → R (cond b z x) (cond b z y)
cond_rel R same true z x y h = same z
cond_rel R same false z x y h = h

entry_rel : (R : Kind → Kind → Type 0) → ((k : Kind) → R k k) → (es : List CleanupEntry) (items : List Form) (k : ℕ) (x y : Kind) → R x y →
    R (entry_claim es items k x) (entry_claim es items k y)
entry_rel R same [] items k x y h = h
entry_rel R same (z ∷ es) items k x y h = cond_rel R same (length (objects es items) == k) (entry_kind z) _ _ (entry_rel R same es items k x y h)

own_rel : (R : Kind → Kind → Type 0) → ((k : Kind) → R k k) → (o : Option Thing) (z : FieldState) (x y : Kind) → R x y → R (own_field o z x) (own_field o z y)
own_rel R same None z x y h = h
own_rel R same (Some t) z x y h = same _

receiver_rel : (R : Kind → Kind → Type 0) → ((k : Kind) → R k k) →
    (p : Image) (k : Holder) (receiver : Receiver) (sh : AbstractState) (n f : ℕ) (x y : Kind) → R x y → R (receiver_claim p k receiver sh n f x) (receiver_claim p k receiver sh n f y)
receiver_rel R same p k Static sh n f x y h = h
receiver_rel R same p k AtRoot sh n f x y h = h
receiver_rel R same p k (Inside o from) sh n f x y h = go (o.name == n)
  where
    go : (b : Bool) → R (cond b (own_field (field_thing p k f) (field sh f) x) x) (cond b (own_field (field_thing p k f) (field sh f) y) y)
    go true = own_rel R same (field_thing p k f) (field sh f) x y h
    go false = h

pub layer_rel : (R : Kind → Kind → Type 0) → ((k : Kind) → R k k) → (p : Image) (l : Layer) (depth : ℕ) (items : List Form) (r : Place) (x y : Kind) → R x y →
    R (layer_claim p l depth items r x) (layer_claim p l depth items r y)
layer_rel R same p (Method fr sh) depth items (Register f i) x y h = cond_rel R same (depth == f) (register sh i) x y h
layer_rel R same p l depth items (Entry k) x y h = entry_rel R same (entries_of l) items k x y h
layer_rel R same p (Method fr sh) depth items (Field n f) x y h = receiver_rel R same p (holder_of p fr.method) fr.receiver sh n f x y h
layer_rel R same p (Dying o) depth items (Field n f) x y h = cond_rel R same (o.name == n) Null x y h
layer_rel R same p (Ending o left) depth items (Field n f) x y h = cond_rel R same (o.name == n) _ x y h
layer_rel R same p (Method fr sh) depth items (Elsewhere Root) x y h = grind arith
layer_rel R same p (Dispatching d owned_chain) depth items (Elsewhere Root) x y h = cond_rel R same (is_of_root d) Null x y h
layer_rel R same p (Method fr sh) depth items (Elsewhere (Session s c)) x y h = h
layer_rel R same p (Dying o) depth items (Elsewhere (Session s c)) x y h = cond_rel R same (o.name == s) Null x y h
layer_rel R same p (Ending o left) depth items (Elsewhere (Session s c)) x y h = cond_rel R same (o.name == s) _ x y h
layer_rel R same p (Dispatching d owned_chain) depth items (Elsewhere (Session s c)) x y h = grind (arith, nat_tests, cond_rel)
layer_rel R same p (Method fr sh) depth items (Elsewhere In_service) x y h = cond_rel R same (serves p fr.method) (delivered sh.message_state) x y h
layer_rel R same p (Dispatching d owned_chain) depth items (Elsewhere In_service) x y h = grind arith
layer_rel R same p (Dying o) depth items (Going k) x y h = cond_rel R same (depth == k) (Own o.thing Ready) x y h
layer_rel R same p (Mark gv) depth items (Elsewhere Root) x y h = h
layer_rel R same p (Unwinding code es) depth items (Elsewhere Root) x y h = h
layer_rel R same p _ depth items _ x y h = h

pub claim_rel : (R : Kind → Kind → Type 0) → ((k : Kind) → R k k) → (p : Image) (d d' : Place → Kind) (ls : List Layer) (r : Place) → R (d r) (d' r) →
    R (claim p d ls r) (claim p d' ls r)
claim_rel R same p d d' [] r h = h
claim_rel R same p d d' (l ∷ ls) r h = layer_rel R same p l _ _ r _ _ (claim_rel R same p d d' ls r h)

pub declared_ready : (p : Image) (cs : List Cell) (r : Place) → is_ready_kind (declared p cs r) ≡ true
declared_ready p cs x = grind (arith, nat_tests)

-- declared fields are ready, so that a claim which is ready with nothing declared is ready
pub claim_ready : (p : Image) (cs : List Cell) (ls : List Layer) (r : Place) → is_ready_kind (claim p (λ x. Null) ls r) ≡ true →
    is_ready_kind (claim p (declared p cs) ls r) ≡ true
claim_ready p cs ls r e =
    claim_rel (λ x y. is_ready_kind x ≡ true → is_ready_kind y ≡ true) (λ k h. h) p (λ x. Null) (declared p cs) ls r (λ h. declared_ready p cs r) e

-- of a cell that is not there nothing is claimed but what is declared
pub claim_unnamed : (p : Image) (t : Typing) (cs : List Cell) (d : Place → Kind) (ls : List Layer) (back : Back) (n f : ℕ) → Stack p t cs back ls →
    named cs n ≡ None → claim p d ls (Field n f) ≡ d (Field n f)
claim_unnamed p t cs d [] back n f s e = refl
claim_unnamed p t cs d (Method fr sh ∷ ls) back n f s e = grind (arith, nat_tests, claim_unnamed p t cs d ls (Returns fr.method fr.receiver) n f s.4 e, ne_eqb)
claim_unnamed p t cs d (Mark gv ∷ ls) back n f s e = claim_unnamed p t cs d ls (Caught gv) n f s.1 e
claim_unnamed p t cs d (Dispatching w owned_chain ∷ ls) back n f s e = ap (λ l. claim p d l (Field n f)) s.1
claim_unnamed p t cs d (Ending o left ∷ ls) back n f s e = grind (arith, nat_tests, ne_eqb o.name n, claim_unnamed p t cs d ls Now n f s.3 e)
claim_unnamed p t cs d (Unwinding code es ∷ ls) back n f s e = claim_unnamed p t cs d ls Leaves n f s.1 e
claim_unnamed p t cs d (Dying o ∷ ls) back n f s e = grind (arith, nat_tests, ne_eqb o.name n, claim_unnamed p t cs d ls Gone n f s.2 e)

-- registers above the layers
pub claim_register_above : (p : Image) (cs : List Cell) (ls : List Layer) (f i : ℕ) → length (tasks_of ls) ≤ f → claim p (declared p cs) ls (Register f i) ≡ Null
claim_register_above p cs [] f i le = refl
claim_register_above p cs (Method fr sh ∷ ls) f i le = grind (arith, nat_tests, ne_eqb, claim_register_above p cs ls f i)
claim_register_above p cs (_ ∷ ls) f i le = claim_register_above p cs ls f i (omega arith)

-- of a cell of which the layers claim nothing more
pub claim_unclaimed : (p : Image) (d : Place → Kind) (ls : List Layer) (n f : ℕ) (k : ℕ → Kind) → Unclaimed p k n ls → d (Field n f) ≡ k f →
    claim p d ls (Field n f) ≡ k f
claim_unclaimed p d ls n f k u e = claim_rel (λ x y. x ≡ y) (λ k. refl) p d (by_field k) ls (Field n f) e ∙ u f

-- of a field that the cell has as what it counts as
pub claim_in_view : (p : Image) (d : Place → Kind) (ls : List Layer) (n f : ℕ) (k : ℕ → Kind) (view : Option ℕ) →
    InView p view k n ls → is_some (field_thing p (view_holder view) f) ≡ true → d (Field n f) ≡ k f → claim p d ls (Field n f) ≡ k f
claim_in_view p d ls n f k view u some e = claim_rel (λ x y. x ≡ y) (λ k. refl) p d (by_field k) ls (Field n f) e ∙ u f some

pub claim_going_above : (p : Image) (cs : List Cell) (ls : List Layer) (k : ℕ) → length (tasks_of ls) ≤ k → claim p (declared p cs) ls (Going k) ≡ Null
claim_going_above p cs [] k le = refl
claim_going_above p cs (Dying o ∷ ls) k le = grind (arith, nat_tests, ne_eqb, claim_going_above p cs ls k)
claim_going_above p cs (_ ∷ ls) k le = claim_going_above p cs ls k (omega arith)

-- a mark claims nothing
pub mark_claims : (p : Image) (d : Place → Kind) (gv : Gives) (ls : List Layer) (r : Place) → claim p d (Mark gv ∷ ls) r ≡ claim p d ls r
mark_claims p d gv ls x = grind arith
