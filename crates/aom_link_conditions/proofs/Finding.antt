-- The first of a list that passes a test, by a search that begins at the end.
use Rattle.std.proofs.lemmas.Bool.Decides.{nat_tests}
use Rattle.std.proofs.Common.{arith, ◌≡◌, ◌<◌, ◌≤◌, ◌+◌, ◌⊎◌, ◌&&◌, ◌∙◌, ℕ, Bool, true, false, List, Option, Some, None, cond, inl, inr, length, position, slice_get, slice_index_or}
use Rattle.std.proofs.Common.{ap, refl, subst, sym}
use Rattle.std.proofs.lemmas.Bool.{false≢true}
use Rattle.std.proofs.lemmas.List.Sums.{fails_before_first}
use Rattle.std.proofs.lemmas.Option.{get_or_from_slice_get, same_Some, slice_get-get_or, slice_get_read, slice_get_within}
use Rattle.aom_image.specs.Image.{Image}
use Rattle.aom_image.specs.declared.method.Method.{Method}
use Rattle.aom_link_conditions.specs.Chains.{number_or_none}
use Rattle.aom_link_conditions.specs.Overriding.{leads_to, overrider_of, replaces}
use Rattle.aom_link_conditions.specs.Roles.{is_class}
use Rattle.aom_link_conditions.proofs.Playing.{found}

-- an element at that place passes
pub record PassesAt {X : Type 0} (test : X → Bool) (xs : List X) (n : ℕ) : Type 0 where
  pub element : X
  pub there : slice_get xs n ≡ Some element
  pub passes : test element ≡ true

-- of those from a place on the first that passes is that one, or none does
pub record FirstFrom {X : Type 0} (test : X → Bool) (xs : List X) (i n : ℕ) : Type 0 where
  pub before : (j : ℕ) (x : X) → i ≤ j → j < n → slice_get xs j ≡ Some x → test x ≡ false
  pub here : (n ≡ 1024) ⊎ PassesAt test xs n

module _ {X : Type 0} (test : X → Bool) (xs : List X) where
  -- of none from the end on
  pub first_of_none : (i n : ℕ) → length xs ≤ i → n ≡ 1024 → FirstFrom test xs i n
  first_of_none i n past none = record {
    before = λ j x from lt at. absurd (let within = slice_get_within xs j x at in omega (arith, within, past, from));
    here = inl none;
  }

  pub first_yes : (i : ℕ) (x : X) → i < length xs → x ≡ slice_index_or xs i x → test x ≡ true → FirstFrom test xs i i
  first_yes i x lt is passes = record {
    before = λ j y from less at. absurd (omega (arith, from, less));
    here = inr (record { element = x; there = slice_get_read xs (length xs) i x refl lt is; passes = passes });
  }

  pub first_no : (i n : ℕ) (x : X) → FirstFrom test xs (i + 1) n → i < length xs → x ≡ slice_index_or xs i x → test x ≡ false → FirstFrom test xs i n
  first_no i n x h lt is fails = record { before = λ j y from less at. grind (arith, nat_tests, h.before j y, slice_get_read xs (length xs) i x refl lt is); here = h.here }

  pub none_passes : (k : ℕ) (x : X) → position test xs ≡ None → slice_get xs k ≡ Some x → test x ≡ false
  none_passes k x e at = grind (arith, nat_tests, slice_get_within xs k x at, fails_before_first test xs k x, get_or_from_slice_get xs k x x at)

  pub fails_earlier : (k j : ℕ) (x : X) → position test xs ≡ Some k → j < k → slice_get xs j ≡ Some x → test x ≡ false
  fails_earlier k j x e lt at = grind (arith, nat_tests, slice_get_within xs j x at, fails_before_first test xs j x, get_or_from_slice_get xs j x x at)

  -- the whole list's first is where a search finds one
  pub first_found : (n : ℕ) → length xs ≤ 1024 → FirstFrom test xs 0 n → n ≡ number_or_none (position test xs)
  first_found n few h = go (position test xs) refl h.here
    where
      go : (o : Option ℕ) → position test xs ≡ o → (n ≡ 1024) ⊎ PassesAt test xs n → n ≡ number_or_none o
      go None e (inl end) = end
      go None e (inr w) = absurd (false≢true (sym (none_passes n w.element e w.there) ∙ w.passes))
      go (Some k) e (inl end) =
          let w = found test xs k e in
          absurd (false≢true (sym (h.before k w.0 (omega arith) (let within = slice_get_within xs k w.0 w.1 in omega (arith, within, few, end)) w.1) ∙ w.2))
      go (Some k) e (inr v) = let w = found test xs k e in grind (arith, h.before k w.0, fails_earlier k n v.element e, w.1, w.2, v.there, v.passes)

-- ---- what a class has in the place of a method

pub no_class : (p : Image) (c m : ℕ) (d : Method) → is_class c d.class ≡ false → replaces p c m d ≡ false
unfolding replaces
no_class p c m d other = ap (λ b. b && leads_to p d.over m) other

pub of_class : (p : Image) (c m : ℕ) (d : Method) → is_class c d.class ≡ true → replaces p c m d ≡ leads_to p d.over m
unfolding replaces
of_class p c m d own = ap (λ b. b && leads_to p d.over m) own

-- a method of another class changes nothing
pub first_other_class : (p : Image) (c m i n : ℕ) (d : Method) (xs : List Method) → FirstFrom (replaces p c m) xs (i + 1) n → i < length xs →
    d ≡ slice_index_or xs i d → is_class c d.class ≡ false → FirstFrom (replaces p c m) xs i n
first_other_class p c m i n d xs h lt is other = first_no (replaces p c m) xs i n d h lt is (no_class p c m d other)

-- one of the class is put at all that it overrides
pub first_put : (p : Image) (c m i n : ℕ) (d : Method) (xs : List Method) (old new : List ℕ) → length old ≡ 1024 → length new ≡ 1024 →
    ((y : ℕ) → slice_get old m ≡ Some y → FirstFrom (replaces p c m) xs (i + 1) y) →
    ((y : ℕ) → slice_get old m ≡ Some y → slice_get new m ≡ Some (cond (leads_to p d.over m) i y)) → i < length xs → d ≡ slice_index_or xs i d →
    is_class c d.class ≡ true → slice_get new m ≡ Some n → FirstFrom (replaces p c m) xs i n
first_put p c m i n d xs old new few same before after lt is own at = go (leads_to p d.over m) refl (same_Some n _ (sym at ∙ after _ there))
  where
    y : ℕ
    y = slice_index_or old m 0

    there : slice_get old m ≡ Some y
    there = slice_get-get_or old m 0 (let within = slice_get_within new m n at in omega (arith, within, few, same))

    go : (b : Bool) → leads_to p d.over m ≡ b → n ≡ cond b i y → FirstFrom (replaces p c m) xs i n
    go true leads e = subst (λ j. FirstFrom (replaces p c m) xs i j) (sym e) (first_yes (replaces p c m) xs i d lt is (of_class p c m d own ∙ leads))
    go false leads e = subst (λ j. FirstFrom (replaces p c m) xs i j) (sym e)
        (first_no (replaces p c m) xs i y d (before y there) lt is (of_class p c m d own ∙ leads))

-- what a class has in the place of a method is a method
pub overrider_there : (p : Image) (c m k : ℕ) → overrider_of p c m ≡ Some k → k < length p.methods
unfolding overrider_of
overrider_there p c m k is = let w = found (replaces p c m) p.methods k is in slice_get_within p.methods k w.0 w.1
