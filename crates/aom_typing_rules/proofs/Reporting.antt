-- What a test tells of a kind or filling it tells of one that says more.
use Rattle.std.proofs.lemmas.Bool.Decides.{nat_tests}
use Rattle.std.proofs.Common.{Bool, ◌≡◌, ℕ, zero, suc, ◌<◌, true, List, [], ◌∷◌, length, Option, Some, refl, arith}
use Rattle.std.proofs.lemmas.Bool.{false≢true, and_parts}
use Rattle.aom_image.specs.Image.{Image}
use Rattle.aom_image.specs.declared.method.Thing.{Thing}
use Rattle.aom_typing_rules.specs.Calls.{empty_past}
use Rattle.aom_abstract_state.specs.Kinds.{all_empty, is_own_for, is_word, is_unowning, is_object_or_null, may_be_destroyed, may_be, may_be_declared, is_fresh_kind}
use Rattle.aom_abstract_state.specs.Kinds.{is_ready_kind, made_ready, none_owns, is_empty, filled, field_state_of}
use Rattle.aom_abstract_state.specs.Order.{Weaker, WeakerFilling}
use Rattle.aom_abstract_state.specs.Order.Weaker.{alike, unset_word, unset_null, maybe_null, maybe_own}
use Rattle.aom_abstract_state.specs.Order.WeakerFilling.{alike_filling, perhaps_empty, perhaps_full}
use Rattle.aom_roles.specs.Tables.{at}
use Rattle.aom_abstract_state.specs.declared.kind.Kind.{Kind}
use Rattle.aom_abstract_state.specs.declared.kind.InitState.{InitState}
use Rattle.aom_abstract_state.specs.declared.kind.Kind.TheVariants.{Maybe, Null, Own, Unset, Word}
use Rattle.aom_abstract_state.specs.declared.kind.FieldState.{FieldState}
use Rattle.aom_abstract_state.specs.declared.kind.FieldState.TheVariants.{Perhaps}

-- what holds of each kind and itself, and of each that says more, holds of all that say more
by_weaker : (R : Kind → Kind → Type 0) → ((k : Kind) → R k k) → R Unset Word →
    R Unset Null → ((t : Thing) (x : InitState) → R (Maybe t x) Null) → ((t : Thing) (x : InitState) → R (Maybe t x) (Own t x)) → (a b : Kind) → Weaker a b → R a b
by_weaker R same word null none some a b (alike {k = k}) = same k
by_weaker R same word null none some a b unset_word = word
by_weaker R same word null none some a b unset_null = null
by_weaker R same word null none some a b (maybe_null {t = t} {a = x}) = none t x
by_weaker R same word null none some a b (maybe_own {t = t} {a = x}) = some t x

-- a test that tells no less of one kind than of another
abbrev Keeps : (Kind → Bool) → Kind → Kind → Type 0
Keeps test a b = test a ≡ true → test b ≡ true

kept_more : (test : Kind → Bool) → Keeps test Unset Word → Keeps test Unset Null → ((t : Thing) (x : InitState) → Keeps test (Maybe t x) Null) →
    ((t : Thing) (x : InitState) → Keeps test (Maybe t x) (Own t x)) → (a b : Kind) → Weaker a b → Keeps test a b
kept_more test = by_weaker (Keeps test) (λ k h. h)

pub word_more : (a b : Kind) → Weaker a b → is_word a ≡ true → is_word b ≡ true
word_more = kept_more is_word (λ h. refl) (λ h. absurd (false≢true h)) (λ t x h. absurd (false≢true h)) (λ t x h. absurd (false≢true h))

pub unowning_more : (a b : Kind) → Weaker a b → is_unowning a ≡ true → is_unowning b ≡ true
unowning_more = kept_more is_unowning (λ h. refl) (λ h. refl) (λ t x h. refl) (λ t x h. absurd (false≢true h))

pub object_or_null_more : (a b : Kind) → Weaker a b → is_object_or_null a ≡ true → is_object_or_null b ≡ true
object_or_null_more = kept_more is_object_or_null (λ h. absurd (false≢true h)) (λ h. refl) (λ t x h. refl) (λ t x h. refl)

pub destroyed_more : (a b : Kind) → Weaker a b → may_be_destroyed a ≡ true → may_be_destroyed b ≡ true
destroyed_more = kept_more may_be_destroyed (λ h. absurd (false≢true h)) (λ h. refl) (λ t x h. refl) (λ t x h. h)

pub ready_more : (a b : Kind) → Weaker a b → is_ready_kind a ≡ true → is_ready_kind b ≡ true
ready_more = kept_more is_ready_kind (λ h. refl) (λ h. refl) (λ t x h. refl) (λ t x h. h)

pub own_more : (p : Image) (x : Thing) (a b : Kind) → Weaker a b → is_own_for p x a ≡ true → is_own_for p x b ≡ true
own_more p x a b y h = grind arith

pub may_be_more : (p : Image) (x : Thing) (a b : Kind) → Weaker a b → may_be p x a ≡ true → may_be p x b ≡ true
may_be_more p x = kept_more (may_be p x) (λ h. absurd (false≢true h)) (λ h. refl) (λ t x h. refl) (λ t x h. h)

pub declared_more : (p : Image) (o : Option Thing) (a b : Kind) → Weaker a b → may_be_declared p o a ≡ true → may_be_declared p o b ≡ true
declared_more p x a b w h = grind (arith, nat_tests, may_be_more)

pub empty_more : (x y : FieldState) → WeakerFilling x y → is_empty x ≡ true → is_empty y ≡ true
empty_more x y (alike_filling {x = f}) h = h
empty_more x y perhaps_empty h = refl
empty_more x y perhaps_full h = absurd (false≢true h)

pub filled_more : (o : Option Thing) (x y : FieldState) → WeakerFilling x y → Weaker (filled o x) (filled o y)
filled_more (Some t) x y perhaps_empty = maybe_null
filled_more (Some t) x y perhaps_full = maybe_own
filled_more _ x y _ = alike

pub filling_more : (a b : Kind) → Weaker a b → WeakerFilling (field_state_of a) (field_state_of b)
filling_more = by_weaker (λ a b. WeakerFilling (field_state_of a) (field_state_of b)) (λ k. alike_filling) alike_filling perhaps_empty
    (λ t x. perhaps_empty) (λ t x. perhaps_full)

pub fresh_more : (a b : Kind) → Weaker a b → is_fresh_kind a ≡ true → is_fresh_kind b ≡ true
fresh_more a b x h = grind arith

pub made_ready_more : (a b : Kind) → Weaker a b → Weaker (made_ready a) (made_ready b)
made_ready_more = by_weaker (λ a b. Weaker (made_ready a) (made_ready b)) (λ k. alike) unset_word unset_null (λ t x. maybe_null) (λ t x. maybe_own)

-- no register owns, read by their numbers
none_at : (xs : List Kind) → none_owns xs ≡ true → (i : ℕ) → is_unowning (at Unset xs i) ≡ true
none_at [] h i = refl
none_at (x ∷ xs) h zero = (and_parts (is_unowning x) (none_owns xs) h).0
none_at (x ∷ xs) h (suc i) = none_at xs (and_parts (is_unowning x) (none_owns xs) h).1 i

pub none_from : (xs : List Kind) → ((i : ℕ) → is_unowning (at Unset xs i) ≡ true) → none_owns xs ≡ true
none_from [] h = refl
none_from (x ∷ xs) h = rw (h 0, none_from xs (λ i. h (suc i)))

pub none_owns_more : (xs ys : List Kind) → ((i : ℕ) → Weaker (at Unset xs i) (at Unset ys i)) → none_owns xs ≡ true → none_owns ys ≡ true
none_owns_more xs ys w h = none_from ys (λ i. unowning_more (at Unset xs i) (at Unset ys i) (w i) (none_at xs h i))

-- the fields that are declared are empty, read by their numbers
empty_at : (ts : List Thing) (xs : List FieldState) → all_empty ts xs ≡ true → (k : ℕ) → k < length ts → is_empty (at Perhaps xs k) ≡ true
empty_at (t ∷ ts) (x ∷ xs) h (suc k) below = empty_at ts xs (and_parts (is_empty x) (all_empty ts xs) h).1 k (omega arith)
empty_at x y h k below = grind arith

empty_from : (ts : List Thing) (xs : List FieldState) → ((k : ℕ) → k < length ts → is_empty (at Perhaps xs k) ≡ true) → all_empty ts xs ≡ true
empty_from [] xs h = refl
empty_from (t ∷ ts) [] h = h 0 (omega arith)
empty_from (t ∷ ts) (x ∷ xs) h = rw (h 0 (omega arith), empty_from ts xs (λ k below. h (suc k) (omega arith)))

pub all_empty_more : (ts : List Thing) (xs ys : List FieldState) → ((i : ℕ) → WeakerFilling (at Perhaps xs i) (at Perhaps ys i)) →
    all_empty ts xs ≡ true → all_empty ts ys ≡ true
all_empty_more ts xs ys w h = empty_from ts ys (λ k below. empty_more (at Perhaps xs k) (at Perhaps ys k) (w k) (empty_at ts xs h k below))

-- also those past so many
pub past_empty_more : (k : ℕ) (ts : List Thing) (xs ys : List FieldState) → ((i : ℕ) → WeakerFilling (at Perhaps xs i) (at Perhaps ys i)) →
    empty_past k ts xs ≡ true → empty_past k ts ys ≡ true
past_empty_more zero ts xs ys w h = all_empty_more ts xs ys w h
past_empty_more (suc k) [] xs ys w h = refl
past_empty_more (suc k) (t ∷ ts) [] [] w h = h
past_empty_more (suc k) (t ∷ ts) [] (y ∷ ys) w h = past_empty_more k ts [] ys (λ i. w (suc i)) h
past_empty_more (suc k) (t ∷ ts) (x ∷ xs) [] w h = past_empty_more k ts xs [] (λ i. w (suc i)) h
past_empty_more (suc k) (t ∷ ts) (x ∷ xs) (y ∷ ys) w h = past_empty_more k ts xs ys (λ i. w (suc i)) h
