-- Lists cut where a test passes: element by element, and under a map.
use Rattle.std.proofs.Common.{◌≡◌, ◌∙◌, ℕ, zero, suc, Bool, true, false, cond, List, [], ◌∷◌, map, refl, ap, slice_index_or}
use Rattle.std.specs.List.{filter, slice_split, onto_first}
use Rattle.std.proofs.lemmas.List.Splits.{slice_split-cons_no, slice_split-cons_yes}
use Rattle.aom_diagnostics.specs.Declarations.{part}

-- ---- the parts of a list that begins with an element

pub part_yes : {X : Type 0} (p : X → Bool) (x : X) (xs : List X) (n : ℕ) → p x ≡ true → part p (x ∷ xs) (suc n) ≡ part p xs n
part_yes p x xs n h = ap (λ ps. slice_index_or ps (suc n) []) (slice_split-cons_yes p x xs h)

later : {X : Type 0} (x : X) (ps : List (List X)) (n : ℕ) → slice_index_or (onto_first x ps) (suc n) [] ≡ slice_index_or ps (suc n) []
later x [] n = refl
later x (q ∷ qs) n = refl

pub part_no : {X : Type 0} (p : X → Bool) (x : X) (xs : List X) (n : ℕ) → p x ≡ false → part p (x ∷ xs) (suc n) ≡ part p xs (suc n)
part_no p x xs n h = ap (λ ps. slice_index_or ps (suc n) []) (slice_split-cons_no p x xs h) ∙ later x (slice_split p xs) n

first : {X : Type 0} (x : X) (ps : List (List X)) → slice_index_or (onto_first x ps) 0 [] ≡ x ∷ slice_index_or ps 0 []
first x [] = refl
first x (q ∷ qs) = refl

pub part_first : {X : Type 0} (p : X → Bool) (x : X) (xs : List X) → p x ≡ false → part p (x ∷ xs) 0 ≡ x ∷ part p xs 0
part_first p x xs h = ap (λ ps. slice_index_or ps 0 []) (slice_split-cons_no p x xs h) ∙ first x (slice_split p xs)

-- ---- what passes

pub filter_yes : {X : Type 0} (p : X → Bool) (x : X) (xs : List X) → p x ≡ true → filter p (x ∷ xs) ≡ x ∷ filter p xs
filter_yes p x xs h = ap (λ t. cond t (x ∷ filter p xs) (filter p xs)) h

pub filter_no : {X : Type 0} (p : X → Bool) (x : X) (xs : List X) → p x ≡ false → filter p (x ∷ xs) ≡ filter p xs
filter_no p x xs h = ap (λ t. cond t (x ∷ filter p xs) (filter p xs)) h

-- ---- under a map

pub filter_map : {X Y : Type 0} (p : Y → Bool) (f : X → Y) (xs : List X) → map f (filter (λ x. p (f x)) xs) ≡ filter p (map f xs)
filter_map p f [] = refl
filter_map p f (x ∷ xs) = go (filter_map p f xs) (p (f x))
  where
    go : map f (filter (λ x. p (f x)) xs) ≡ filter p (map f xs) →
        (b : Bool) → map f (cond b (x ∷ filter (λ x. p (f x)) xs) (filter (λ x. p (f x)) xs)) ≡ cond b (f x ∷ filter p (map f xs)) (filter p (map f xs))
    go rest true = ap (λ ys. f x ∷ ys) rest
    go rest false = rest

onto_first_map : {X Y : Type 0} (f : X → Y) (x : X) (ps : List (List X)) → map (map f) (onto_first x ps) ≡ onto_first (f x) (map (map f) ps)
onto_first_map f x [] = refl
onto_first_map f x (q ∷ qs) = refl

split_map : {X Y : Type 0} (p : Y → Bool) (f : X → Y) (xs : List X) → map (map f) (slice_split (λ x. p (f x)) xs) ≡ slice_split p (map f xs)
split_map p f [] = refl
split_map p f (x ∷ xs) = go (split_map p f xs) (p (f x))
  where
    go : map (map f) (slice_split (λ x. p (f x)) xs) ≡ slice_split p (map f xs) → (b : Bool) → map (map f) (cond b ([] ∷ slice_split (λ x. p (f x)) xs)
        (onto_first x (slice_split (λ x. p (f x)) xs))) ≡ cond b ([] ∷ slice_split p (map f xs)) (onto_first (f x) (slice_split p (map f xs)))
    go rest true = ap (λ ps. [] ∷ ps) rest
    go rest false = onto_first_map f x (slice_split (λ x. p (f x)) xs) ∙ ap (onto_first (f x)) rest

index_map : {X Y : Type 0} (f : X → Y) (ps : List (List X)) (n : ℕ) → map f (slice_index_or ps n []) ≡ slice_index_or (map (map f) ps) n []
index_map f [] n = refl
index_map f (q ∷ qs) zero = refl
index_map f (q ∷ qs) (suc n) = index_map f qs n

pub part_map : {X Y : Type 0} (p : Y → Bool) (f : X → Y) (xs : List X) (n : ℕ) → map f (part (λ x. p (f x)) xs n) ≡ part p (map f xs) n
part_map p f xs n = index_map f (slice_split (λ x. p (f x)) xs) n ∙ ap (λ ps. slice_index_or ps n []) (split_map p f xs)
