-- Which nodes a list has: after a node was put behind it or taken out of it, and how many there can be.
use Rattle.std.proofs.lemmas.Bool.Decides.{nat_tests}
use Rattle.std.proofs.Common.{◌≡◌, ◌≢◌, ◌<◌, ◌≤◌, ◌==◌, ◌⊎◌, ℕ, zero, suc, not, List, [], ◌∷◌, ◌++◌, length, refl, sym, ap, ◌∙◌, subst, inl, inr, arith}
use Rattle.std.proofs.lemmas.Bool.{eq-eqb, ne_eqb, cond-true, cond-false}
use Rattle.std.proofs.lemmas.List.{length-append}
use Rattle.aom_clients.specs.Lists.{IsIn, IsOnce, without}

-- a node of one part is one of the whole
pub in-left : (x : ℕ) (xs ys : List ℕ) → IsIn x xs → IsIn x (xs ++ ys)
in-left x [] ys i = elim i [ ]
in-left x (y ∷ xs) ys (inl e) = inl e
in-left x (y ∷ xs) ys (inr i) = inr (in-left x xs ys i)

pub in-right : (x : ℕ) (xs ys : List ℕ) → IsIn x ys → IsIn x (xs ++ ys)
in-right x [] ys i = i
in-right x (y ∷ xs) ys i = inr (in-right x xs ys i)

-- and a node of the whole is one of a part
pub in-either : (x : ℕ) (xs ys : List ℕ) → IsIn x (xs ++ ys) → IsIn x xs ⊎ IsIn x ys
in-either x [] ys i = inr i
in-either x (y ∷ xs) ys (inl e) = inl (inl e)
in-either x (y ∷ xs) ys (inr i) = elim (in-either x xs ys i) [ inl a ↦ inl (inr a) | inr b ↦ inr b ]

-- a list where a node stands is parted there
pub record Parted (x : ℕ) (xs : List ℕ) : Type 0 where
  pub front : List ℕ
  pub back : List ℕ
  pub is : xs ≡ front ++ x ∷ back

pub parted : (x : ℕ) (xs : List ℕ) → IsIn x xs → Parted x xs
parted x [] i = elim i [ ]
parted x (y ∷ xs) (inl e) = record { front = []; back = xs; is = ap (λ z. z ∷ xs) e }
parted x (y ∷ xs) (inr i) =
    let p = parted x xs i in
    record { front = y ∷ p.front; back = p.back; is = ap (λ zs. y ∷ zs) p.is }

-- parts of a list without repeats have none, and share no node
pub once-left : (xs ys : List ℕ) → IsOnce (xs ++ ys) → IsOnce xs
once-left [] ys o = tt
once-left (x ∷ xs) ys o = (λ i. o.0 (in-left x xs ys i), once-left xs ys o.1)

pub once-right : (xs ys : List ℕ) → IsOnce (xs ++ ys) → IsOnce ys
once-right [] ys o = o
once-right (x ∷ xs) ys o = once-right xs ys o.1

pub once-apart : (z : ℕ) (xs ys : List ℕ) → IsOnce (xs ++ ys) → IsIn z xs → IsIn z ys → ⊥
once-apart z [] ys o i j = elim i [ ]
once-apart z (x ∷ xs) ys o (inl e) j = o.0 (in-right x xs ys (subst (λ n. IsIn n ys) (sym e) j))
once-apart z (x ∷ xs) ys o (inr i) j = once-apart z xs ys o.1 i j

-- one node more, that was not there
pub once-push : (x : ℕ) (xs : List ℕ) → IsOnce xs → (IsIn x xs → ⊥) → IsOnce (xs ++ x ∷ [])
once-push x [] o new = (λ i. i, tt)
once-push x (y ∷ xs) o new = (λ i. go (in-either y xs (x ∷ []) i), once-push x xs o.1 (λ i. new (inr i)))
  where
    go : IsIn y xs ⊎ IsIn y (x ∷ []) → ⊥
    go z = grind arith

-- without a node: the others stand as they stood
pub kept : (x y : ℕ) (ys : List ℕ) → y ≢ x → without x (y ∷ ys) ≡ y ∷ without x ys
kept x y ys other = cond-true (not (y == x)) (y ∷ without x ys) (without x ys) (ap not (ne_eqb y x other))

pub left : (x y : ℕ) (ys : List ℕ) → y ≡ x → without x (y ∷ ys) ≡ without x ys
left x y ys same = cond-false (not (y == x)) (y ∷ without x ys) (without x ys) (ap not (eq-eqb y x same))

pub without-absent : (x : ℕ) (xs : List ℕ) → (IsIn x xs → ⊥) → without x xs ≡ xs
without-absent x [] absent = refl
without-absent x (y ∷ xs) absent = kept x y xs (λ e. absent (inl e)) ∙ ap (λ ys. y ∷ ys) (without-absent x xs (λ i. absent (inr i)))

pub without-parted : (x : ℕ) (xs ys : List ℕ) → IsOnce (xs ++ x ∷ ys) → without x (xs ++ x ∷ ys) ≡ xs ++ ys
without-parted x [] ys o = left x x ys refl ∙ without-absent x ys o.0
without-parted x (y ∷ xs) ys o = grind (arith, in-right y xs (x ∷ ys), without-parted x xs ys o.1)

pub in-without : (z x : ℕ) (xs : List ℕ) → IsIn z (without x xs) → (z ≢ x) × IsIn z xs
in-without z x [] i = elim i [ ]
in-without z x (y ∷ xs) i = grind (arith, in-without z x xs)

pub without-in : (z x : ℕ) (xs : List ℕ) → z ≢ x → IsIn z xs → IsIn z (without x xs)
without-in z x [] apart i = i
without-in z x (y ∷ xs) apart i = grind (arith, without-in z x xs apart)

pub once-without : (x : ℕ) (xs : List ℕ) → IsOnce xs → IsOnce (without x xs)
once-without x [] o = tt
once-without x (y ∷ xs) o = grind (arith, once-without x xs o.1, in-without y x xs)

-- a node less
pub length-without : (x : ℕ) (xs : List ℕ) → IsOnce xs → IsIn x xs → suc (length (without x xs)) ≡ length xs
length-without x xs o i = grind (arith, nat_tests, parted x xs i, without-parted x, length-append)

-- the nodes but one are one less at most
shorter : (n : ℕ) (ys : List ℕ) → IsOnce ys → length ys ≤ suc (length (without n ys))
shorter n [] o = omega arith
shorter n (y ∷ ys) o = grind (arith, shorter n ys o.1, without-absent n ys)

-- nodes below a number, none twice, are no more than it
pub few : (n : ℕ) (xs : List ℕ) → IsOnce xs → ((x : ℕ) → IsIn x xs → x < n) → length xs ≤ n
few zero [] o below = omega arith
few zero (x ∷ xs) o below = absurd (omega (arith, below x (inl refl)))
few (suc n) xs o below = omega (arith, shorter n xs o, few n (without n xs) (once-without n xs o) less)
  where
    less : (x : ℕ) → IsIn x (without n xs) → x < n
    less x i = grind (arith, nat_tests, in-without)
