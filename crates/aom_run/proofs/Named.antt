-- What serves a cell is a native that the image names, and few requests are outstanding at it.
use Rattle.std.proofs.lemmas.Bool.Decides.{nat_tests}
use Rattle.std.proofs.Common.{◌≡◌, ◌<◌, ◌≤◌, ℕ, Bool, true, false, List, ◌∷◌, [], Option, Some, None, refl, sym, subst, ◌∙◌, length, slice_get, inl, inr}
use Rattle.std.proofs.Common.{arith, suc}
use Rattle.std.specs.Prelude.{◌==◌}
use Rattle.std.specs.List.{AllByRecursion, IsDistinct, list_any}
use Rattle.std.proofs.lemmas.Bool.{cases_eq, eq-eqb, ne_eqb, true≢false}
use Rattle.std.proofs.lemmas.Grind.{common_steps}
use Rattle.std.proofs.lemmas.Map.Steps.{length-le_from_distinct_below}
use Rattle.aom_image.specs.Image.{Image}
use Rattle.aom_image.specs.Views.{class_at}
use Rattle.aom_image.specs.WellFormed.{ClassFits, KindFits, WellFormed}
use Rattle.aom_image.specs.declared.class.ClassDecl.{ClassDecl}
use Rattle.aom_image.specs.declared.class.ClassKind.{ClassKind}
use Rattle.aom_image.specs.declared.method.Thing.{Thing}
use Rattle.aom_run.proofs.LinkConditionsLemmas.{all_there}
use Rattle.aom_roles.specs.Classes.{kind_in}
use Rattle.aom_roles.specs.Shapes.{kind_of}
use Rattle.aom_semantics.specs.Requests.{thing_kind}
use Rattle.aom_semantics.specs.Natives.{native_of}
use Rattle.aom_semantics.specs.Places.{Cell}
use Rattle.aom_determinism.specs.Owed.{serves}
use Rattle.aom_run.proofs.DeterminismLemmas.{native_served}
use Rattle.aom_determinism.specs.Endings.{one_where}
use Rattle.aom_natives.specs.Owed.{IsNew, times}

module _ (p : Image) (formed : WellFormed p) where
  kind_names : (k : ClassKind) (n : ℕ) → KindFits p.header.version (length p.classes) p.header.natives k → native_of (Some k) ≡ Some n → n < p.header.natives
  kind_names x n fits e = grind arith

  class_names : (class : Option ℕ) (n : ℕ) → native_of (kind_of p class) ≡ Some n → n < p.header.natives
  unfolding kind_of kind_in class_at
  class_names None n e = cc
  class_names (Some c) n e = go (slice_get p.classes c) refl e
    where
      go : (o : Option ClassDecl) → slice_get p.classes c ≡ o → native_of (kind_in o) ≡ Some n → n < p.header.natives
      go None at e = cc
      go (Some d) at e = kind_names d.kind n (all_there (ClassFits p.header.version _ p.header.natives) p.classes c d formed.classes.each at).kind e

  thing_names : (t : Thing) (n : ℕ) → native_of (thing_kind p t) ≡ Some n → n < p.header.natives
  thing_names x n e = grind (arith, nat_tests, class_names)

  -- a native that serves a cell is one of those that the image names
  pub serving_named : (cs : List Cell) (n m : ℕ) → serves p cs n m ≡ true → n < p.header.natives
  serving_named cs n m e = grind (arith, nat_tests, thing_names, native_served p n)

-- ---- ids, each once, below a limit

pub at_most_one : (b : Bool) → one_where b ≤ 1
at_most_one x = grind arith

pub turned_false : (a b : ℕ) → (a == b) ≡ false → (b == a) ≡ false
turned_false a b e = ne_eqb b a (λ same. true≢false (sym (eq-eqb a b (sym same)) ∙ e))

seldom : (ids : List ℕ) (x : ℕ) → times x (x ∷ ids) ≤ 1 → times x ids ≡ 0
seldom ids x once = grind (arith, common_steps)

fewer : (ids : List ℕ) (x m : ℕ) → times m (x ∷ ids) ≤ 1 → times m ids ≤ 1
fewer ids x m once = grind (arith, common_steps)

pub there : (ids : List ℕ) (x : ℕ) → times x (x ∷ ids) ≡ suc (times x ids)
there ids x = grind (arith, common_steps)

pub elsewhere : (ids : List ℕ) (x m : ℕ) → (m == x) ≡ false → times m (x ∷ ids) ≡ times m ids
elsewhere ids x m other = grind (arith, common_steps, other)

uncounted : (x : ℕ) (ids : List ℕ) → times x ids ≡ 0 → AllByRecursion (λ y. (x == y) ≡ false) ids
uncounted x [] none = tt
uncounted x (k ∷ ids) none = grind (arith, nat_tests, cases_eq x k, there ids x, ne_eqb x k, uncounted x ids, elsewhere ids k x)

distinct : (ids : List ℕ) → ((m : ℕ) → times m ids ≤ 1) → IsDistinct (λ a b. a == b) ids
unfolding IsDistinct
distinct [] once = tt
distinct (x ∷ ids) once = (uncounted x ids (seldom ids x (once x)), distinct ids (λ m. fewer ids x m (once m)))

counted : (ids : List ℕ) (m : ℕ) → list_any (λ k. m == k) ids ≡ true → 0 < times m ids
counted [] m found = absurd (true≢false (sym found))
counted (k ∷ ids) m found = grind (arith, nat_tests, cases_eq m k, there ids m, counted ids m, ne_eqb m k, elsewhere ids k m)

-- where each id stands once and is below a limit, as a new one is, there are fewer
pub few : (ids : List ℕ) (x limit : ℕ) → ((m : ℕ) → times m ids ≤ 1) → ((m : ℕ) → 0 < times m ids → m < limit) → IsNew ids x → x < limit → length ids < limit
few ids x limit once small new below =
    let apart : IsDistinct (λ a b. a == b) (x ∷ ids) = distinct (x ∷ ids) once_more in
    length-le_from_distinct_below (x ∷ ids) limit apart (λ m found. all_small m (counted (x ∷ ids) m found))
  where
    once_more : (m : ℕ) → times m (x ∷ ids) ≤ 1
    once_more m = elim (cases_eq m x) [
      | inl same ↦ (let one = there ids x in subst (λ y. times y (x ∷ ids) ≤ 1) (sym same) (omega (arith, one, new)))
      | inr other ↦ (let same = elsewhere ids x m (ne_eqb m x other) in let o = once m in omega (arith, same, o))
    ]

    all_small : (m : ℕ) → 0 < times m (x ∷ ids) → m < limit
    all_small m some = elim (cases_eq m x) [
      | inl same ↦ subst (λ y. y < limit) (sym same) below
      | inr other ↦ small m (let same = elsewhere ids x m (ne_eqb m x other) in omega (arith, same, some))
    ]
