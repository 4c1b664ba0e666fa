-- The least numbers that a method may have, as loops and tables come to them.
use Rattle.std.proofs.lemmas.Bool.Decides.{nat_tests}
use Rattle.std.proofs.Common.{◌≡◌, ◌<◌, ◌≤◌, ◌+◌, ◌++◌, ◌∷◌, ◌==◌, ◌∙◌, ◌⊎◌, ◌↔◌, ℕ, suc, Bool, true, false, IsTrue, List, [], length, Option, Some, None}
use Rattle.std.specs.Prelude.{replicate}
use Rattle.std.proofs.Common.{cond, IfSome, slice_get, slice_index_or, max, position, leb, inl, inr, ap, sym, subst, refl, arith}
use Rattle.std.proofs.lemmas.Bool.{eqb-true, false≢true, le-leb, leb-true}
use Rattle.std.proofs.lemmas.List.{get_or-replicate, length-replicate}
use Rattle.std.proofs.lemmas.Option.{get_or_from_slice_get, same_Some, slice_get-get_or, slice_get_read, slice_get_within}
use Rattle.std.proofs.lemmas.List.Sums.{fails_before_first}
use Rattle.aom_image.specs.Image.{Image}
use Rattle.aom_image.specs.declared.method.Role.{Role}
use Rattle.aom_roles.specs.Classes.{sessions_at}
use Rattle.aom_roles.specs.Families.{descends, parent_of}
use Rattle.aom_link_conditions.proofs.RolesLemmas.{along, child, from_none, from_parent, itself}
use Rattle.aom_link_conditions.specs.Calls.{AllBelow, DestructsBelow, EndsBelow, GoesBelow}
use Rattle.aom_link_conditions.specs.Orders.{AreLeast, IsLeast, ReachesAll}
use Rattle.aom_link_conditions.specs.Roles.{keeper_of, own_role, fills_role}
use Rattle.aom_link_conditions.proofs.Each.{EachBelow, each_all, each_more, each_push}
use Rattle.aom_link_conditions.proofs.Keeping.{child_there, keeper_own}
use Rattle.aom_link_conditions.proofs.Playing.{found}

-- what is read from a list of one number
pub read_alike : (count x k n : ℕ) → slice_get (replicate count x) k ≡ Some n → n ≡ x
read_alike count x k n at =
    let within = slice_get_within (replicate count x) k n at in
    sym (get_or_from_slice_get (replicate count x) k n n at) ∙ get_or-replicate count k x n (rw (length-replicate {A = ℕ} count x) at within)

-- ---- one number

pub least_same : {P Q : ℕ → Type 0} (n : ℕ) → IsLeast n P → ((m : ℕ) → P m ↔ Q m) → IsLeast n Q
least_same n h same m = (λ le. (same m).0 ((h m).0 le), λ q. (h m).1 ((same m).1 q))

pub least_max : {P Q : ℕ → Type 0} (a b : ℕ) → IsLeast a P → IsLeast b Q → IsLeast (max a b) (λ m. P m × Q m)
least_max a b f g m = (λ le. ((f m).0 (grind (arith, le)), (g m).0 (grind (arith, le))), grind (arith, nat_tests))

-- ---- a loop over a list: above all places that pass a test

module _ {X : Type 0} (test : X → Bool) (xs : List X) where
  abbrev Below : ℕ → ℕ → X → Type 0
  Below m k x = IsTrue (test x) → k < m

  pub least_none : IsLeast 0 (λ m. EachBelow (Below m) xs 0)
  least_none m = (λ le k lt. absurd (omega (arith, lt)), λ all. omega arith)

  past_all : (m i k : ℕ) → i < m → k < i + 1 → (o : Option X) → IfSome o (λ x. IsTrue (test x) → k < m)
  past_all m i k within lt x = grind arith

  pub least_yes : (i : ℕ) (x : X) → i < length xs → x ≡ slice_index_or xs i x → test x ≡ true → IsLeast (i + 1) (λ m. EachBelow (Below m) xs (i + 1))
  least_yes i x lt is passes m = search (arith, nat_tests, past_all m i, slice_get_read xs)

  pub least_no : (n i : ℕ) (x : X) → IsLeast n (λ m. EachBelow (Below m) xs i) → i < length xs → x ≡ slice_index_or xs i x → test x ≡ false →
      IsLeast n (λ m. EachBelow (Below m) xs (i + 1))
  least_no n i x h lt is fails m = (
    λ le. each_more (Below m) xs i x ((h m).0 le) lt is (λ passes. absurd (false≢true (sym fails ∙ passes))),
    λ all. (h m).1 (λ k less. all k (omega (arith, less))),
  )

  pub least_all : (n i : ℕ) → IsLeast n (λ m. EachBelow (Below m) xs i) → length xs ≤ i → IsLeast n (λ m. (k : ℕ) → IfSome (slice_get xs k) (Below m k))
  least_all n i h past m = (λ le. each_all (Below m) xs i past ((h m).0 le), λ all. (h m).1 (λ k lt. all k))

  -- and in a table, where each method is put at what passes
  pub least_alike : (count k n : ℕ) → slice_get (replicate count 0) k ≡ Some n → IsLeast n (λ m. EachBelow (Below m) xs 0)
  least_alike count k n at = subst (λ j. IsLeast j (λ m. EachBelow (Below m) xs 0)) (sym (read_alike count 0 k n at)) least_none

  pub least_put : (i : ℕ) (x : X) (old new : List ℕ) (k n : ℕ) → length old ≡ 1024 → length new ≡ 1024 →
      ((y : ℕ) → slice_get old k ≡ Some y → IsLeast y (λ m. EachBelow (Below m) xs i)) →
      ((y : ℕ) → slice_get old k ≡ Some y → slice_get new k ≡ Some (cond (test x) (i + 1) y)) → i < length xs → x ≡ slice_index_or xs i x →
      slice_get new k ≡ Some n → IsLeast n (λ m. EachBelow (Below m) xs (i + 1))
  least_put i x old new k n few same before after lt is at = go (test x) refl (same_Some n _ (sym at ∙ after _ there))
    where
      y : ℕ
      y = slice_index_or old k 0

      there : slice_get old k ≡ Some y
      there = slice_get-get_or old k 0 (let within = slice_get_within new k n at in omega (arith, within, few, same))

      go : (b : Bool) → test x ≡ b → n ≡ cond b (i + 1) y → IsLeast n (λ m. EachBelow (Below m) xs (i + 1))
      go true passes e = subst (λ j. IsLeast j (λ m. EachBelow (Below m) xs (i + 1))) (sym e) (least_yes i x lt is passes)
      go false fails e = subst (λ j. IsLeast j (λ m. EachBelow (Below m) xs (i + 1))) (sym e) (least_no y i x (before y there) lt is fails)

  pub least_each : (i : ℕ) (table : List ℕ) (k : ℕ) → ((n : ℕ) → slice_get table k ≡ Some n → IsLeast n (λ m. EachBelow (Below m) xs i)) →
      length xs ≤ i → IfSome (slice_get table k) (λ n. IsLeast n (λ m. (j : ℕ) → IfSome (slice_get xs j) (Below m j)))
  least_each i table k h past = go (slice_get table k) refl
    where
      go : (o : Option ℕ) → slice_get table k ≡ o → IfSome o (λ n. IsLeast n (λ m. (j : ℕ) → IfSome (slice_get xs j) (Below m j)))
      go None e = tt
      go (Some n) e = least_all n i (h n e) past

-- ---- tables

pub least_push : (n : ℕ) (table : List ℕ) (P : ℕ → ℕ → Type 0) (x : ℕ) → AreLeast n table P → IsLeast x (P n) → AreLeast (n + 1) (table ++ x ∷ []) P
least_push n table P x h least = record {
  each = each_push (λ i n. IsLeast n (P i)) table x h.each (subst (λ i. IsLeast x (P i)) (sym h.all) least);
  all = (let longer = length_push table in let all = h.all in omega (arith, longer, all));
}
  where
    length_push : (xs : List ℕ) → length (xs ++ x ∷ []) ≡ suc (length xs)
    length_push [] = refl
    length_push (y ∷ xs) = ap suc (length_push xs)

pub table_none : (P : ℕ → ℕ → Type 0) → AreLeast 0 [] P
table_none P = record { each = λ i. tt; all = refl }

-- what is read at a place of a table
pub read_at : (table : List ℕ) (i k : ℕ) → length table ≡ 256 → k ≡ i → k < 256 → slice_get table i ≡ Some (slice_index_or table k 0)
read_at table i k all same lt = ap (slice_get table) (sym same) ∙ slice_get-get_or table k 0 (omega (arith, all, lt))

pub least_at : (count : ℕ) (table : List ℕ) (P : ℕ → ℕ → Type 0) (i k : ℕ) → AreLeast count table P → k ≡ i → k < count → IsLeast (slice_index_or table k 0) (P i)
least_at count table P i k h same lt = grind (arith, nat_tests, slice_get-get_or table k 0)

-- a test against the least number is the condition
pub least_test : {P : ℕ → Type 0} (n m : ℕ) → IsLeast n P → IsTrue (leb n m) ↔ P m
least_test n m h = (λ passes. (h m).0 (leb-true n m passes), λ holds. le-leb n m ((h m).1 holds))

-- ---- what runs as an object goes

module _ (p : Image) where
  pub goes_none : (c : ℕ) → parent_of p c ≡ None → (m : ℕ) → DestructsBelow p m c ↔ GoesBelow p m c
  goes_none c none m = (λ own y family. go y (c == y) refl family own, λ all. all c (itself p c))
    where
      go : (y : ℕ) (b : Bool) → (c == y) ≡ b → descends p c y ≡ true → DestructsBelow p m c → DestructsBelow p m y
      go y x same family own = grind (arith, nat_tests, eqb-true, from_none)

  pub goes_parent : (c e : ℕ) → parent_of p c ≡ Some e → (m : ℕ) → (DestructsBelow p m c × GoesBelow p m e) ↔ GoesBelow p m c
  goes_parent c e is m = (λ both y family. go y (c == y) refl family both, λ all. (all c (itself p c), λ y family. all y (child p c e y is family)))
    where
      go : (y : ℕ) (b : Bool) → (c == y) ≡ b → descends p c y ≡ true → DestructsBelow p m c × GoesBelow p m e → DestructsBelow p m y
      go y x same family both = grind (arith, nat_tests, eqb-true, from_parent)

  pub ends_alone : (c : ℕ) → sessions_at p c ≡ None → (m : ℕ) → GoesBelow p m c ↔ EndsBelow p m c
  ends_alone c none m = (λ own. record { own = own; sessions = subst (λ o. IfSome o (GoesBelow p m)) (sym none) tt }, λ all. all.own)

  pub ends_sessions : (c s : ℕ) → sessions_at p c ≡ Some s → (m : ℕ) → (GoesBelow p m c × GoesBelow p m s) ↔ EndsBelow p m c
  ends_sessions c s is m = search (arith, nat_tests)

  -- ---- a class and all that descend from it

  -- who descends from another class is there
  pub descends_there : (x c : ℕ) → descends p x c ≡ true → (x ≡ c) ⊎ (x < length p.classes)
  descends_there x c h = along p (λ x. (x ≡ c) ⊎ (x < length p.classes)) c (λ d e is above. inr (child_there p d e is)) (inl refl) x h

  -- what is found of those below a place
  abbrev pub ReachesSome : List ℕ → ℕ → ℕ → ℕ → Type 0
  ReachesSome table c i m = IfSome (slice_get table c) (λ n. n ≤ m) × ((x : ℕ) → x < i → descends p x c ≡ true → IfSome (slice_get table x) (λ n. n ≤ m))

  module _ (table : List ℕ) (c : ℕ) where
    pub reaches_first : (n : ℕ) → slice_get table c ≡ Some n → IsLeast n (ReachesSome table c 0)
    reaches_first n is m = search (arith, nat_tests)

    one_more : (i m : ℕ) → ((x : ℕ) → x < i → descends p x c ≡ true → IfSome (slice_get table x) (λ n. n ≤ m)) → (descends p i c ≡ true →
        IfSome (slice_get table i) (λ n. n ≤ m)) → (x : ℕ) → x < i + 1 → descends p x c ≡ true → IfSome (slice_get table x) (λ n. n ≤ m)
    one_more i m before here x lt = grind (arith, nat_tests, eqb-true x i)

    pub reaches_yes : (n k i : ℕ) → IsLeast n (ReachesSome table c i) → slice_get table i ≡ Some k → descends p i c ≡ true →
        IsLeast (max n k) (ReachesSome table c (i + 1))
    reaches_yes n k i h is there = grind (arith, nat_tests, least_same, least_max, one_more)

    pub reaches_no : (n i : ℕ) → IsLeast n (ReachesSome table c i) → descends p i c ≡ false → IsLeast n (ReachesSome table c (i + 1))
    reaches_no n i h other = grind (arith, nat_tests, least_same, one_more)

    pub reaches_all : (n i : ℕ) → IsLeast n (ReachesSome table c i) → length p.classes ≤ i → IsLeast n (ReachesAll p table c)
    reaches_all n i h past = least_same n h (λ m. (
      λ some x family. go m x some family (descends_there x c family),
      λ all. (all c (itself p c), λ x lt family. all x family),
    ))
      where
        go : (m x : ℕ) → ReachesSome table c i m → descends p x c ≡ true → (x ≡ c) ⊎ (x < length p.classes) → IfSome (slice_get table x) (λ n. n ≤ m)
        go m x some family y = grind (arith, nat_tests)

  -- a table of the greatest numbers of another says for each class what the other says for all that descend from it
  pub greatest_least : (table most : List ℕ) (P : ℕ → ℕ → Type 0) → length p.classes ≤ 256 → AreLeast 256 table P →
      AreLeast 256 most (λ c m. ReachesAll p table c m) → AreLeast 256 most (λ c m. (x : ℕ) → descends p x c ≡ true → P x m)
  greatest_least table most P few h g = record { each = λ c. go c (slice_get most c) refl (g.each c); all = g.all }
    where
      there : (c x : ℕ) → c < 256 → descends p x c ≡ true → x < 256
      there c x lt family = grind (arith, nat_tests, descends_there x c family)

      said : (x m : ℕ) (o : Option ℕ) → slice_get table x ≡ o → x < 256 → IfSome o (λ n. IsLeast n (P x)) → IfSome o (λ n. n ≤ m) ↔ P x m
      said x m y e lt least = grind (arith, nat_tests, slice_get-get_or table x 0)

      go : (c : ℕ) (o : Option ℕ) → slice_get most c ≡ o → IfSome o (λ n. IsLeast n (ReachesAll p table c)) →
          IfSome o (λ n. IsLeast n (λ m. (x : ℕ) → descends p x c ≡ true → P x m))
      go c None e least = tt
      go c (Some n) e least =
          let lt : c < 256 = (let within = slice_get_within most c n e in let all = g.all in omega (arith, within, all)) in
          least_same n least (λ m. (
            λ all x family. (said x m (slice_get table x) refl (there c x lt family) (h.each x)).0 (all x family),
            λ every x family. (said x m (slice_get table x) refl (there c x lt family) (h.each x)).1 (every x family),
          ))

-- ---- the cancel methods that a class has

none_before : {X : Type 0} (test : X → Bool) (xs : List X) → position test xs ≡ None → (k : ℕ) → IfSome (slice_get xs k) (λ x. IsTrue (test x) → k < 0)
none_before test xs none k = go (slice_get xs k) refl
  where
    go : (o : Option _) → slice_get xs k ≡ o → IfSome o (λ x. IsTrue (test x) → k < 0)
    go None e = tt
    go (Some x) e = grind (arith, slice_get_within xs k x e, fails_before_first test xs k x, get_or_from_slice_get xs k x x e)

module _ (p : Image) where
  module _ (r : Role) where
    -- a class with such methods is asked of them alone, and one without of what its parent is asked
    abbrev pub asked : ℕ → Option ℕ → Type 0
    asked m o = IfSome o (λ y. AllBelow p.methods m y r)

    pub asked_own : (n c : ℕ) → IsLeast n (λ m. AllBelow p.methods m c r) → 0 < n → (m : ℕ) → AllBelow p.methods m c r ↔ asked m (keeper_of p c r)
    unfolding own_role
    asked_own n c h lt m = go (own_role p c r) refl
      where
        go : (o : Option ℕ) → own_role p c r ≡ o → AllBelow p.methods m c r ↔ asked m (keeper_of p c r)
        go None none = let le = (h 0).1 (none_before (fills_role c r) p.methods none) in absurd (omega (arith, le, lt))
        go (Some k) is = (λ all. subst (asked m) (sym (keeper_own p r c k is)) all, λ all. subst (asked m) (keeper_own p r c k is) all)

    -- where the least number is 0, there is none
    pub none_own : (n c : ℕ) → IsLeast n (λ m. AllBelow p.methods m c r) → n ≡ 0 → own_role p c r ≡ None
    unfolding own_role
    none_own n c h zero_so = go (own_role p c r) refl
      where
        go : (o : Option ℕ) → own_role p c r ≡ o → o ≡ None
        go None is = refl
        go (Some k) is =
            let w = found (fills_role c r) p.methods k is in
            let below : IfSome (Some w.0) (λ d. IsTrue (fills_role c r d) → k < 0) =
            subst (λ o. IfSome o (λ d. IsTrue (fills_role c r d) → k < 0)) w.1 ((h 0).0 (omega (arith, zero_so)) k) in
            let lt = below w.2 in absurd (omega (arith, lt))
