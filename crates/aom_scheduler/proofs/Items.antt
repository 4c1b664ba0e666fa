-- Items in an order, each with a number of its own: where each stands, and what an insertion and a removal leave.
use Rattle.std.proofs.lemmas.Bool.Decides.{nat_tests}
use Rattle.std.proofs.Common.{◌≡◌, ◌≢◌, ◌<◌, ◌≤◌, ◌+◌, ◌==◌, ℕ, zero, suc, Bool, true, false, not, List, [], ◌∷◌, Some, None, length, get_or}
use Rattle.std.proofs.Common.{refl, sym, ap, ◌∙◌, subst, inl, inr, arith, Option}
use Rattle.std.specs.Prelude.{All, AllPairs, insert, remove, option_map, map, IsSome, IsNone}
use Rattle.std.proofs.lemmas.Bool.{true≢false, cases_Bool, eqb-true, eq-eqb, eqb-false, ne_eqb, cases_eq, not-true, cond-true, cond-false}
use Rattle.std.proofs.lemmas.List.Elements.{All-cons, All-head, All-tail, All-nil, All-weaker, All-filter, All-map, filter_passes}
use Rattle.std.proofs.lemmas.List.Edits.{length-remove}
use Rattle.std.proofs.lemmas.List.{get_or-map, length-map}
use Rattle.std.specs.List.Sorted.{IsPartitionPoint, IsPartitionedBy}
use Rattle.std.proofs.lemmas.List.Kept.{AllPairs-cons, AllPairs-filter}
use Rattle.aom_scheduler.specs.Order.{placed, without, place_of, IsOrdered}

module _ {A : Type 0} where
  -- what an option holds that holds something
  pub some_is : (o : Option A) → IsSome o → (x : A) × (o ≡ Some x)
  some_is x some = grind arith

  pub none_is : (o : Option A) → IsNone o → o ≡ None
  none_is x is = grind arith

module _ {A : Type 0} (R : A → A → Type 0) where
  -- what comes first is related to each that follows, and these to each other
  pub pairs-head : (x : A) (xs : List A) → AllPairs R (x ∷ xs) → All (R x) xs
  pairs-head x xs p = λ k d within. p 0 (suc k) d (omega arith) (omega arith)

  pub pairs-tail : (x : A) (xs : List A) → AllPairs R (x ∷ xs) → AllPairs R xs
  pairs-tail x xs p = λ i j d less within. p (suc i) (suc j) d (omega arith) (omega arith)

  pub pairs-nil : AllPairs R []
  pairs-nil = λ i j d less within. absurd (omega arith)

module _ {A : Type 0} (before : A → A → Bool) where
  -- what holds of the item and of all others holds of all once it is placed
  pub All-placed : (P : A → Type 0) (x : A) (xs : List A) → P x → All P xs → All P (placed before x xs)
  All-placed P x [] here all = All-cons P x [] here all
  All-placed P x (y ∷ ys) here all = grind (arith, All-head, All-placed P x ys here (All-tail P y ys all))

  -- pairs are related as before if the item is related to all others, whichever comes first
  pub pairs-placed : (R : A → A → Type 0) (x : A) (xs : List A) → All (R x) xs → All (λ y. R y x) xs → AllPairs R xs → AllPairs R (placed before x xs)
  pairs-placed R x [] left right pairs = AllPairs-cons R x [] left pairs
  pairs-placed R x (y ∷ ys) left right pairs = elim (cases_Bool (before y x)) [
    | inl e ↦ subst (AllPairs R) (sym (cond-true _ _ _ e))
        (AllPairs-cons R y (placed before x ys) (All-placed (R y) x ys (All-head (λ z. R z x) y ys right) (pairs-head R y ys pairs))
        (pairs-placed R x ys (All-tail (R x) y ys left) (All-tail (λ z. R z x) y ys right) (pairs-tail R y ys pairs)))
    | inr e ↦ subst (AllPairs R) (sym (cond-false _ _ _ e)) (AllPairs-cons R x (y ∷ ys) left pairs)
  ]

  -- of two items one may stand before the other, and so down a chain
  pub record IsRanking : Type 0 where
    pub either : (x y : A) → before x y ≡ false → before y x ≡ true
    pub chain : (x y z : A) → before x y ≡ true → before y z ≡ true → before x z ≡ true

  pub sorted-placed : IsRanking → (x : A) (xs : List A) → AllPairs (λ y z. before y z ≡ true) xs → AllPairs (λ y z. before y z ≡ true) (placed before x xs)
  sorted-placed r x [] pairs = AllPairs-cons (λ y z. before y z ≡ true) x [] (All-nil (λ z. before x z ≡ true)) pairs
  sorted-placed r x (y ∷ ys) pairs =
      let R : A → A → Type 0 = λ y z. before y z ≡ true in
      elim (cases_Bool (before y x)) [
        | inl e ↦ subst (AllPairs R) (sym (cond-true _ _ _ e))
            (AllPairs-cons R y (placed before x ys) (All-placed (R y) x ys e (pairs-head R y ys pairs)) (sorted-placed r x ys (pairs-tail R y ys pairs)))
        | inr e ↦ subst (AllPairs R) (sym (cond-false _ _ _ e))
            (AllPairs-cons R x (y ∷ ys) (All-cons (R x) y ys (r.either y x e)
            (All-weaker (R y) (R x) (λ z h. r.chain x y z (r.either y x e) h) ys (pairs-head R y ys pairs))) pairs)
      ]

  -- pairs are related as before if the item is related to each other in the order in which the two stand then
  pub pairs-placed_between : IsRanking → (R : A → A → Type 0) (x : A) (xs : List A) → All (λ y. before y x ≡ true → R y x) xs
      → All (λ y. before y x ≡ false → R x y) xs → AllPairs (λ y z. before y z ≡ true) xs → AllPairs R xs → AllPairs R (placed before x xs)
  pairs-placed_between r R x [] left right sorted pairs = AllPairs-cons R x [] (All-nil (R x)) pairs
  pairs-placed_between r R x (y ∷ ys) left right sorted pairs =
      let B : A → A → Type 0 = λ v z. before v z ≡ true in
      elim (cases_Bool (before y x)) [
        | inl e ↦ subst (AllPairs R) (sym (cond-true _ _ _ e))
            (AllPairs-cons R y (placed before x ys) (All-placed (R y) x ys (All-head (λ z. before z x ≡ true → R z x) y ys left e) (pairs-head R y ys pairs))
            (pairs-placed_between r R x ys (All-tail (λ z. before z x ≡ true → R z x) y ys left) (All-tail (λ z. before z x ≡ false → R x z) y ys right)
            (pairs-tail B y ys sorted) (pairs-tail R y ys pairs)))
        | inr e ↦ subst (AllPairs R) (sym (cond-false _ _ _ e)) (AllPairs-cons R x (y ∷ ys) (All-cons (R x) y ys
            (All-head (λ z. before z x ≡ false → R x z) y ys right e) (λ k d within. behind (get_or ys k d) e (pairs-head B y ys sorted k d within)
            (All-tail (λ z. before z x ≡ false → R x z) y ys right k d within))) pairs)
      ]
    where
      behind : (z : A) → before y x ≡ false → before y z ≡ true → (before z x ≡ false → R x z) → R x z
      behind z not_first first then = elim (cases_Bool (before z x)) [
        | inl e ↦ absurd (true≢false (sym (r.chain y z x first e) ∙ not_first))
        | inr e ↦ then e
      ]

  -- it is placed where all before may stand before it, and the next may not
  pub placed-at : (x : A) (xs : List A) (i : ℕ) → ((k : ℕ) → k < i → before (get_or xs k x) x ≡ true)
      → (i < length xs → before (get_or xs i x) x ≡ false) → insert xs i x ≡ placed before x xs
  placed-at x [] zero up down = refl
  placed-at x [] (suc i) up down = refl
  placed-at x (y ∷ ys) zero up down = sym (cond-false _ _ _ (down (omega arith)))
  placed-at x (y ∷ ys) (suc i) up down = ap (λ zs. y ∷ zs) (placed-at x ys i (λ k less. up (suc k) (omega arith)) (λ less. down (omega arith))) ∙ sym
      (cond-true _ _ _ (up 0 (omega arith)))

module _ {A : Type 0} (number : A → ℕ) where
  -- the item of this number stands there, and none before it has the number
  pub data IsAt (id : ℕ) : List A → ℕ → Type 0 where
    at_head : (x : A) (xs : List A) → number x ≡ id → IsAt id (x ∷ xs) zero
    in_tail : {i : ℕ} (x : A) (xs : List A) → number x ≢ id → IsAt id xs i → IsAt id (x ∷ xs) (suc i)

  -- no item has the number
  abbrev pub IsAbsent : ℕ → List A → Type 0
  IsAbsent id xs = All (λ x. number x ≢ id) xs

  abbrev pub AreDistinct : List A → Type 0
  AreDistinct xs = AllPairs (λ x y. number x ≢ number y) xs

  pub absent-head : (id : ℕ) (x : A) (xs : List A) → IsAbsent id (x ∷ xs) → number x ≢ id
  absent-head id x xs = All-head (λ y. number y ≢ id) x xs

  pub absent-tail : (id : ℕ) (x : A) (xs : List A) → IsAbsent id (x ∷ xs) → IsAbsent id xs
  absent-tail id x xs = All-tail (λ y. number y ≢ id) x xs

  pub distinct-tail : (x : A) (xs : List A) → AreDistinct (x ∷ xs) → AreDistinct xs
  distinct-tail x xs = pairs-tail (λ y z. number y ≢ number z) x xs

  -- the number of what comes first is not among the rest
  pub distinct-head : (x : A) (xs : List A) → AreDistinct (x ∷ xs) → IsAbsent (number x) xs
  distinct-head x xs distinct = λ k d within same. pairs-head (λ y z. number y ≢ number z) x xs distinct k d within (sym same)

  pub place-here : (id : ℕ) (x : A) (xs : List A) → number x ≡ id → place_of number id (x ∷ xs) ≡ Some 0
  place-here id x xs same = cond-true _ _ _ (eq-eqb _ _ same)

  pub place-later : (id : ℕ) (x : A) (xs : List A) → number x ≢ id → place_of number id (x ∷ xs) ≡ option_map suc (place_of number id xs)
  place-later id x xs other = cond-false _ _ _ (ne_eqb _ _ other)

  pub at-place : (id : ℕ) (xs : List A) (i : ℕ) → IsAt id xs i → place_of number id xs ≡ Some i
  at-place id _ _ (at_head x xs same) = place-here id x xs same
  at-place id _ _ (in_tail x xs other at) = place-later id x xs other ∙ ap (option_map suc) (at-place id xs _ at)

  pub absent-place : (id : ℕ) (xs : List A) → IsAbsent id xs → place_of number id xs ≡ None
  absent-place id [] absent = refl
  absent-place id (x ∷ xs) absent = place-later id x xs (absent-head id x xs absent) ∙ ap (option_map suc) (absent-place id xs (absent-tail id x xs absent))

  -- an item of the number stands where its place says, or nowhere
  pub data Found (id : ℕ) (xs : List A) : Option ℕ → Type 0 where
    there : (i : ℕ) → IsAt id xs i → Found id xs (Some i)
    nowhere : IsAbsent id xs → Found id xs None

  pub find_it : (id : ℕ) (xs : List A) → Found id xs (place_of number id xs)
  find_it id [] = nowhere (All-nil (λ x. number x ≢ id))
  find_it id (x ∷ xs) = elim (cases_Bool (number x == id)) [
    | inl e ↦ subst (Found id (x ∷ xs)) (sym (cond-true _ _ _ e)) (there 0 (at_head x xs (eqb-true _ _ e)))
    | inr e ↦ subst (Found id (x ∷ xs)) (sym (cond-false _ _ _ e)) (later id x xs (eqb-false _ _ e) (place_of number id xs) (find_it id xs))
  ]
    where
      later : (id : ℕ) (x : A) (xs : List A) → number x ≢ id → (o : Option ℕ) → Found id xs o → Found id (x ∷ xs) (option_map suc o)
      later id x xs other _ (there i at) = there (suc i) (in_tail x xs other at)
      later id x xs other _ (nowhere absent) = nowhere (All-cons (λ y. number y ≢ id) x xs other absent)

  found-at : (id : ℕ) (xs : List A) (i : ℕ) → Found id xs (Some i) → IsAt id xs i
  found-at id xs _ (there i at) = at

  found-absent : (id : ℕ) (xs : List A) → Found id xs None → IsAbsent id xs
  found-absent id xs (nowhere absent) = absent

  pub place-at : (id : ℕ) (xs : List A) (i : ℕ) → place_of number id xs ≡ Some i → IsAt id xs i
  place-at id xs i e = found-at id xs i (subst (Found id xs) e (find_it id xs))

  pub place-absent : (id : ℕ) (xs : List A) → place_of number id xs ≡ None → IsAbsent id xs
  place-absent id xs e = found-absent id xs (subst (Found id xs) e (find_it id xs))

  pub at-within : (id : ℕ) (xs : List A) (i : ℕ) → IsAt id xs i → i < length xs
  at-within id _ _ (at_head x xs same) = omega arith
  at-within id _ _ (in_tail x xs other at) = omega (arith, at-within id xs _ at)

  pub at-number : (id : ℕ) (xs : List A) (i : ℕ) (d : A) → IsAt id xs i → number (get_or xs i d) ≡ id
  at-number id _ _ d (at_head x xs same) = same
  at-number id _ _ d (in_tail x xs other at) = at-number id xs _ d at

  -- where numbers are distinct, each item stands at its own place
  pub own-place : (xs : List A) (i : ℕ) (d : A) → AreDistinct xs → i < length xs → IsAt (number (get_or xs i d)) xs i
  own-place [] i d distinct within = absurd (omega arith)
  own-place (x ∷ xs) zero d distinct within = at_head x xs refl
  own-place (x ∷ xs) (suc i) d distinct within =
      in_tail x xs (distinct 0 (suc i) d (omega arith) within) (own-place xs i d (distinct-tail x xs distinct) (omega arith))

  kept : (id : ℕ) (x : A) (xs : List A) → number x ≢ id → without number id (x ∷ xs) ≡ x ∷ without number id xs
  kept id x xs other = cond-true (not (number x == id)) (x ∷ without number id xs) (without number id xs) (ap not (ne_eqb (number x) id other))

  gone : (id : ℕ) (x : A) (xs : List A) → number x ≡ id → without number id (x ∷ xs) ≡ without number id xs
  gone id x xs same = cond-false (not (number x == id)) (x ∷ without number id xs) (without number id xs) (ap not (eq-eqb (number x) id same))

  -- what is left without a number
  pub without-absent : (id : ℕ) (xs : List A) → IsAbsent id xs → without number id xs ≡ xs
  without-absent id [] absent = refl
  without-absent id (x ∷ xs) absent = kept id x xs (absent-head id x xs absent) ∙ ap (λ ys. x ∷ ys) (without-absent id xs (absent-tail id x xs absent))

  pub without-at : (id : ℕ) (xs : List A) (i : ℕ) → AreDistinct xs → IsAt id xs i → remove xs i ≡ without number id xs
  without-at id _ _ distinct (at_head x xs same) =
      sym (gone id x xs same ∙ without-absent id xs (subst (λ n. IsAbsent n xs) same (distinct-head x xs distinct)))
  without-at id _ _ distinct (in_tail x xs other at) = ap (λ ys. x ∷ ys) (without-at id xs _ (distinct-tail x xs distinct) at) ∙ sym (kept id x xs other)

module _ {A : Type 0} (number : A → ℕ) where
  -- the items without one number are fewer by one at most
  length-without : (id : ℕ) (xs : List A) → AreDistinct number xs → length xs ≤ suc (length (without number id xs))
  length-without id xs distinct = by_found (place_of number id xs) (find_it number id xs)
    where
      by_found : (o : Option ℕ) → Found number id xs o → length xs ≤ suc (length (without number id xs))
      by_found _ x = grind (arith, length-remove xs, at-within number id xs, without-at number id xs, without-absent number id xs)

  -- items of distinct numbers below the limit are no more than it
  pub few : (limit : ℕ) (xs : List A) → All (λ x. number x < limit) xs → AreDistinct number xs → length xs ≤ limit
  few zero [] below distinct = omega arith
  few zero (x ∷ xs) below distinct = absurd (omega (arith, below 0 x (omega arith)))
  few (suc limit) xs below distinct = omega (
    arith,
    length-without limit xs distinct,
    few limit (without number limit xs) less (AllPairs-filter (λ x y. number x ≢ number y) (λ x. not (number x == limit)) xs distinct),
  )
    where
      less : All (λ x. number x < limit) (without number limit xs)
      less = λ k d within.
          let x = get_or (without number limit xs) k d in
          let small : number x < suc limit = All-filter (λ y. not (number y == limit)) (λ y. number y < suc limit) xs below k d within in
          let passes : not (number x == limit) ≡ true = filter_passes (λ y. not (number y == limit)) xs k d within in
          let other : number x ≢ limit = eqb-false (number x) limit (not-true (number x == limit) passes) in
          omega arith

module _ {A : Type 0} (before : A → A → Bool) where
  -- where a search for the place of an item ends
  pub placed-point : (x : A) (xs : List A) (i : ℕ) → i ≤ length xs → IsPartitionPoint (λ y. before y x ≡ true) (λ y. before y x ≡ false) xs i
      → insert xs i x ≡ placed before x xs
  placed-point x xs i within point = placed-at before x xs i (λ k less. point.0 k x (omega arith) less) (λ less. point.1 i x (omega arith) less)

  pub searchable : IsRanking before → (x : A) (xs : List A) → AllPairs (λ y z. before y z ≡ true) xs → IsPartitionedBy (λ y. before y x) xs
  searchable r x xs sorted = grind (arith, nat_tests, cases_eq)

  -- what holds of all once the item is placed holds of all others
  pub All-from_placed : (P : A → Type 0) (x : A) (xs : List A) → All P (placed before x xs) → All P xs
  All-from_placed P x [] all = All-nil P
  All-from_placed P x (y ∷ ys) all = elim (cases_Bool (before y x)) [
    | inl e ↦
        let whole : All P (y ∷ placed before x ys) = subst (All P) (cond-true (before y x) (y ∷ placed before x ys) (x ∷ y ∷ ys) e) all in
        All-cons P y ys (All-head P y (placed before x ys) whole) (All-from_placed P x ys (All-tail P y (placed before x ys) whole))
    | inr e ↦ All-tail P x (y ∷ ys) (subst (All P) (cond-false (before y x) (y ∷ placed before x ys) (x ∷ y ∷ ys) e) all)
  ]

-- items that are changed are related as before if each two stay so
pub pairs-map : {A : Type 0} (f : A → A) (R : A → A → Type 0) → ((x y : A) → R x y → R (f x) (f y)) → (xs : List A) → AllPairs R xs → AllPairs R (map f xs)
pairs-map f R keeps xs pairs = λ i j d less within.
    let inside : j < length xs = omega (arith, length-map xs f) in
    subst (λ a. R a (get_or (map f xs) j d)) (sym (get_or-map f xs i d d (omega arith)))
    (subst (λ b. R (f (get_or xs i d)) b) (sym (get_or-map f xs j d d inside)) (keeps (get_or xs i d) (get_or xs j d) (pairs i j d less inside)))

module _ {A : Type 0} (number : A → ℕ) (before : A → A → Bool) where
  -- an order stays one with an item of a new number, and without any
  pub ordered-placed : IsRanking before → (limit : ℕ) (x : A) (xs : List A) → number x < limit → IsAbsent number (number x) xs
      → IsOrdered number before limit xs → IsOrdered number before limit (placed before x xs)
  ordered-placed r limit x xs small absent o = record {
    below = All-placed before (λ y. number y < limit) x xs small o.below;
    distinct = pairs-placed before (λ y z. number y ≢ number z) x xs (λ k d within same. absent k d within (sym same)) absent o.distinct;
    sorted = sorted-placed before r x xs o.sorted;
  }

  pub ordered-without : (limit id : ℕ) (xs : List A) → IsOrdered number before limit xs → IsOrdered number before limit (without number id xs)
  ordered-without limit id xs o =
      let test : A → Bool = λ x. not (number x == id) in
      record {
        below = All-filter test (λ x. number x < limit) xs o.below;
        distinct = AllPairs-filter (λ x y. number x ≢ number y) test xs o.distinct;
        sorted = AllPairs-filter (λ x y. before x y ≡ true) test xs o.sorted;
      }

  -- so with items that keep their numbers and their standing
  pub ordered-map : (f : A → A) → ((x : A) → number (f x) ≡ number x) → ((x y : A) → before (f x) (f y) ≡ before x y) → (limit : ℕ) (xs : List A)
      → IsOrdered number before limit xs → IsOrdered number before limit (map f xs)
  ordered-map f same_number same_standing limit xs o = record {
    below = All-map (λ x. number x < limit) f xs (All-weaker (λ x. number x < limit) (λ x. number (f x) < limit)
        (λ x h. subst (λ n. n < limit) (sym (same_number x)) h) xs o.below);
    distinct = pairs-map f (λ x y. number x ≢ number y) (λ x y differs same. differs (sym (same_number x) ∙ same ∙ same_number y)) xs o.distinct;
    sorted = pairs-map f (λ x y. before x y ≡ true) (λ x y h. same_standing x y ∙ h) xs o.sorted;
  }

module _ {A : Type 0} (number : A → ℕ) where
  -- a walk to the item of a number: it ends, it goes on past others, and it ends there
  pub walk-within : (id : ℕ) (xs : List A) (at : ℕ) → IsSome (place_of number id xs) → ((p : ℕ) → place_of number id xs ≡ Some p → at ≤ p) → at < length xs
  walk-within id xs at some later =
      let stands = some_is (place_of number id xs) some in
      omega (arith, later stands.0 stands.1, at-within number id xs stands.0 (place-at number id xs stands.0 stands.1))

  pub walk-on : (id : ℕ) (xs : List A) (at : ℕ) (d : A) → ((p : ℕ) → place_of number id xs ≡ Some p → at ≤ p) → number (get_or xs at d) ≢ id → (p : ℕ)
      → place_of number id xs ≡ Some p → at + 1 ≤ p
  walk-on id xs at d later other p is = grind (arith, at-number number id xs p d (place-at number id xs p is))

  pub walk-ends : (id : ℕ) (xs : List A) (at : ℕ) (d : A) → AreDistinct number xs → at < length xs → number (get_or xs at d) ≡ id
      → place_of number id xs ≡ Some at
  walk-ends id xs at d distinct within same = at-place number id xs at (subst (λ n. IsAt number n xs at) same (own-place number xs at d distinct within))
