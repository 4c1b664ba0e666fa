-- What holds of each element of a list, place by place, and the first of which it does not hold.
use Rattle.std.proofs.Common.{◌+◌, ◌<◌, ◌≤◌, ◌≡◌, ℕ, List, IfSome, length, slice_get, slice_index_or, inl, inr, arith, below_more, refl}
use Rattle.std.proofs.Common.{[], ◌∷◌, zero, suc, All, Option, Some, None, is_some, not, IsTrue, ◌↔◌, Bool, true, false, subst}
use Rattle.std.proofs.lemmas.List.Elements.{All-cons, All-head, All-nil, All-tail}
use Rattle.std.proofs.lemmas.Option.{slice_get_read, slice_get_cases}
use Rattle.std.proofs.Common.{sym, ◌∙◌}
use Rattle.std.proofs.lemmas.Bool.{false≢true}
use Rattle.aom_image.specs.Image.{Image}
use Rattle.aom_roles.specs.Classes.{RootOrdered, SessionRoot, is_session}
use Rattle.aom_roles.specs.Firsts.{FirstNot, FirstOf}

-- it holds of each element below a place
abbrev pub EachBelow : {X : Type 0} → (ℕ → X → Type 0) → List X → ℕ → Type 0
EachBelow P xs i = (k : ℕ) → k < i → IfSome (slice_get xs k) (P k)

-- what holds of each element before one, and of that one
pub each_more : {X : Type 0} (P : ℕ → X → Type 0) (xs : List X) (i : ℕ) (x : X) → EachBelow P xs i → i < length xs → x ≡ slice_index_or xs i x →
    P i x → EachBelow P xs (i + 1)
each_more P xs i x h lt e p = below_more _ _ h (rw (slice_get_read xs (length xs) i x refl lt e) p)

-- what holds of each element of the list's length holds at each place
pub each_all : {X : Type 0} (P : ℕ → X → Type 0) (xs : List X) (i : ℕ) → length xs ≤ i → EachBelow P xs i → (k : ℕ) → IfSome (slice_get xs k) (P k)
each_all P xs i le h k = elim (slice_get_cases xs k).1 [
  | inl w ↦ h k (omega (arith, w.1))
  | inr w ↦ rw w.1 tt
]

-- what holds at each place holds of the element there
pub each_at : {X : Type 0} (P : ℕ → X → Type 0) (xs : List X) (i : ℕ) (x : X) → ((k : ℕ) → IfSome (slice_get xs k) (P k)) → i < length xs →
    x ≡ slice_index_or xs i x → P i x
each_at P xs i x h lt e = rw (slice_get_read xs (length xs) i x refl lt e) at (h i)

-- the first of which it does not hold, once it held of each before it
pub first_here : {X : Type 0} (P : ℕ → X → Type 0) (xs : List X) (i : ℕ) (x : X) → EachBelow P xs i → i < length xs → x ≡ slice_index_or xs i x →
    (¬ P i x) → FirstNot P xs i
first_here P xs i x h lt e un = record { there = lt; fails = λ here. un (rw (slice_get_read xs (length xs) i x refl lt e) at here); before = h }

-- what is told of there being none, by a test that found it
pub reported : {P : Type 0} (o : Option ℕ) (r : Bool) → is_some o ≡ not r → IsTrue (not (is_some o)) ↔ P → IsTrue r ↔ P
reported o true e h = (λ yes. h.0 (rw e refl), λ p. refl)
reported o false e h = (λ yes. absurd (cc), λ p. absurd (let n = h.1 p in cc))

-- there is none where it holds of each, place by place or of all at once
pub none_first : {X : Type 0} (P : ℕ → X → Type 0) (xs : List X) (o : Option ℕ) (r : Bool) → is_some o ≡ not r → FirstOf P xs o →
    IsTrue r ↔ ((k : ℕ) → IfSome (slice_get xs k) (P k))
none_first P xs None r e h = reported None r e (λ _. h, λ _. refl)
none_first P xs (Some i) r e h = reported (Some i) r e (λ yes. absurd (cc), λ all. absurd (h.fails (all i)))

all_each : {X : Type 0} (P : X → Type 0) (xs : List X) → ((k : ℕ) → IfSome (slice_get xs k) P) → All P xs
all_each P [] h = All-nil P
all_each P (x ∷ xs) h = All-cons P x xs (h zero) (all_each P xs (λ k. h (suc k)))

each_of_all : {X : Type 0} (P : X → Type 0) (xs : List X) → All P xs → (k : ℕ) → IfSome (slice_get xs k) P
each_of_all P [] h k = tt
each_of_all P (x ∷ xs) h zero = All-head P x xs h
each_of_all P (x ∷ xs) h (suc k) = each_of_all P xs (All-tail P x xs h) k

pub none_first_all : {X : Type 0} (P : X → Type 0) (xs : List X) (o : Option ℕ) (r : Bool) → is_some o ≡ not r → FirstOf (λ _. P) xs o → IsTrue r ↔ All P xs
none_first_all P xs o r e h =
    let each = none_first (λ _. P) xs o r e h in
    (λ yes. all_each P xs (each.0 yes), λ all. each.1 (each_of_all P xs all))

-- the root may be the root where no session is
pub none_root : (p : Image) (o : Option ℕ) (r : Bool) → is_some o ≡ not r → SessionRoot p o → IsTrue r ↔ RootOrdered p
none_root p None r e h = reported None r e (λ _. h, λ _. refl)
none_root p (Some c) r e h = reported (Some c) r e (
  λ yes. absurd (cc),
  λ root. absurd (false≢true (sym (subst (λ o. IfSome o (λ k. is_session p k ≡ false)) h.0 root) ∙ h.1)),
)

-- what a test says no to
pub refused : {P : Type 0} (r : Bool) → IsTrue r ↔ P → r ≡ false → ¬ P
refused r h e p = let t = h.1 p in absurd (cc)
