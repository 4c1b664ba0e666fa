-- What tests say, both of two, and no; what holds of each element of a list, place by place or of all at once; and how many pass a test.
use Rattle.std.proofs.lemmas.Bool.Decides.{nat_tests}
use Rattle.std.proofs.Common.{arith, ◌≡◌, ◌<◌, ◌≤◌, ◌+◌, ℕ, Bool, true, false, ◌&&◌, IsTrue, ◌↔◌, List, [], ◌∷◌, ◌++◌, zero, suc, All, length, take, count_by}
use Rattle.std.proofs.Common.{IfSome, slice_get, slice_index_or, get_or, leb, refl, sym, ap, subst, ◌∙◌}
use Rattle.std.proofs.lemmas.List.{take_all}
use Rattle.std.proofs.lemmas.List.Elements.{All-get_or, All-more}
use Rattle.std.proofs.lemmas.List.Sums.{count_by_more_yes, count_by_more_no}
use Rattle.std.proofs.lemmas.Bool.{leb-true, le-leb}
use Rattle.std.proofs.lemmas.Option.{slice_get_read, get_or_from_slice_get}
use Rattle.aom_link_conditions.proofs.ImageLemmas.{true_given}
pub use Rattle.aom_link_conditions.proofs.RolesLemmas.{EachBelow, each_all, each_more, first_here, none_first, none_first_all, refused, reported}

pub both : (a b : Bool) → IsTrue (a && b) → IsTrue a × IsTrue b
both a b h = true_given (λ x. IsTrue (x && b)) a h (λ none. cc) (λ first second. (first, second))

pub join : (a b : Bool) → IsTrue a → IsTrue b → IsTrue (a && b)
join x b h k = grind arith

-- no, where it does not hold of one element
pub each_not : {X : Type 0} (P : ℕ → X → Type 0) (xs : List X) (i : ℕ) (x : X) → i < length xs → x ≡ slice_index_or xs i x → (¬ P i x) →
    IsTrue false ↔ ((k : ℕ) → IfSome (slice_get xs k) (P k))
each_not P xs i x lt e un = (λ f. absurd (cc), λ all. absurd (un (rw (slice_get_read xs (length xs) i x refl lt e) at (all i))))

-- an element that was read at a place is the one there
read_there : {X : Type 0} (xs : List X) (i : ℕ) (x : X) → i < length xs → x ≡ slice_index_or xs i x → get_or xs i x ≡ x
read_there xs i x lt e = get_or_from_slice_get xs i x x (slice_get_read xs (length xs) i x refl lt e)

-- what holds of all before an element, and of that one; of all, once each was looked at; and not of all, where it does not hold of one
pub all_more : {X : Type 0} (P : X → Type 0) (xs : List X) (i : ℕ) (x : X) → All P (take i xs) → i < length xs → x ≡ slice_index_or xs i x →
    P x → All P (take (i + 1) xs)
all_more P xs i x h lt e p = All-more P xs i x lt h (subst P (sym (read_there xs i x lt e)) p)

pub all_whole : {X : Type 0} (P : X → Type 0) (xs : List X) (i : ℕ) → length xs ≤ i → All P (take i xs) → All P xs
all_whole P xs i le h = subst (All P) (take_all i xs le) h

pub all_not : {X : Type 0} (P : X → Type 0) (xs : List X) (i : ℕ) (x : X) → i < length xs → x ≡ slice_index_or xs i x → (¬ P x) → IsTrue false ↔ All P xs
all_not P xs i x lt e un = (λ f. absurd (cc), λ all. absurd (un (subst P (read_there xs i x lt e) (All-get_or P xs i x lt all))))

-- how many pass up to an element that passes, and up to one that does not
pub counted_yes : {X : Type 0} (p : X → Bool) (xs : List X) (i n : ℕ) (x : X) →
    n ≡ count_by p (take i xs) → i < length xs → x ≡ slice_index_or xs i x → p x ≡ true → n + 1 ≡ count_by p (take (i + 1) xs)
counted_yes p xs i n x h lt e t = ap (λ (k : ℕ). k + 1) h ∙ sym (count_by_more_yes p xs i x lt (ap p (read_there xs i x lt e) ∙ t))

pub counted_no : {X : Type 0} (p : X → Bool) (xs : List X) (i n : ℕ) (x : X) → n ≡ count_by p (take i xs) → i < length xs → x ≡ slice_index_or xs i x →
    p x ≡ false → n ≡ count_by p (take (i + 1) xs)
counted_no p xs i n x h lt e t = h ∙ sym (count_by_more_no p xs i x lt (ap p (read_there xs i x lt e) ∙ t))

-- and whether it is at most so many in all, once each was looked at
pub counted : {X : Type 0} (p : X → Bool) (xs : List X) (i n k : ℕ) → n ≡ count_by p (take i xs) → length xs ≤ i → IsTrue (leb n k) ↔ (count_by p xs ≤ k)
counted p xs i n k h le = grind (arith, nat_tests, take_all i xs le, leb-true n k, le-leb n k)

-- what holds of each element of a list, and of one more at its end
pub each_push : {X : Type 0} (P : ℕ → X → Type 0) (xs : List X) (x : X) → ((k : ℕ) → IfSome (slice_get xs k) (P k)) → P (length xs) x → (k : ℕ) →
    IfSome (slice_get (xs ++ x ∷ []) k) (P k)
each_push P [] x h p zero = p
each_push P [] x h p (suc k) = tt
each_push P (y ∷ xs) x h p zero = h zero
each_push P (y ∷ xs) x h p (suc k) = each_push (λ j. P (suc j)) xs x (λ j. h (suc j)) p k
