-- What overrides a method in a class is the only one there where the number above all such methods is the next after the first.
use Rattle.std.proofs.Common.{List, arith, ⊎_elim, ◌≡◌, ◌<◌, ◌≤◌, ◌+◌, ◌∙◌, ℕ, All, IsTrue, IfSome, Option, Some, None, length, slice_get, slice_index_or, ap, refl, subst, sym, true}
use Rattle.std.specs.Prelude.{min}
use Rattle.std.proofs.lemmas.Option.{slice_get-get_or, slice_get_within}
use Rattle.std.proofs.lemmas.Bool.{cases_lt, false≢true}
use Rattle.aom_image.specs.Image.{Image}
use Rattle.aom_image.specs.WellFormed.{MethodFits}
use Rattle.aom_image.specs.declared.method.Method.{Method}
use Rattle.std.proofs.lemmas.Bool.{eq-eqb}
use Rattle.aom_link_conditions.specs.Chains.{AreLast, AreOverriders, FirstTwice, FirstTwiceIn, OnceIn, number_or_none}
use Rattle.aom_link_conditions.specs.Orders.{IsLeast}
use Rattle.aom_link_conditions.specs.Overriding.{AllOverriddenOnce, IsOnly, OverriddenOnce, OtherOverrider, leads_to, overrider_of, replaces}
use Rattle.aom_link_conditions.specs.Roles.{is_class}
use Rattle.aom_roles.specs.Firsts.{FirstOf}
use Rattle.aom_link_conditions.proofs.Each.{both, join}
use Rattle.aom_link_conditions.proofs.Facts.{all_there}
use Rattle.aom_link_conditions.proofs.Finding.{fails_earlier, none_passes}
use Rattle.aom_link_conditions.proofs.Playing.{class_is}

module _ (p : Image) (c m first above : ℕ) (is : first ≡ number_or_none (overrider_of p c m))
    (least : IsLeast above (λ b. (k : ℕ) → IfSome (slice_get p.methods k) (λ d. IsTrue (replaces p c m d) → k < b))) where
  pub once_so : above ≤ first + 1 → OnceIn p c m
  unfolding overrider_of
  once_so le k = go (slice_get p.methods k) refl ((least above).0 (omega arith) k)
    where
      only : (d : Method) (o : Option ℕ) → overrider_of p c m ≡ o → slice_get p.methods k ≡ Some d → replaces p c m d ≡ true → k < above → o ≡ Some k
      only d None e at passes lt = absurd (false≢true (sym (none_passes (replaces p c m) p.methods k d e at) ∙ passes))
      only d (Some i) e at passes lt =
          let here : first ≡ i = is ∙ ap number_or_none e in
          let later : k < i → ⊥ = λ less. false≢true (sym (fails_earlier (replaces p c m) p.methods i k d e less at) ∙ passes) in
          ap (λ j. Some j) (omega (arith, here, le, lt, later))

      go : (o : Option Method) → slice_get p.methods k ≡ o → IfSome o (λ d. IsTrue (replaces p c m d) → k < above) →
          IfSome o (λ d. IsTrue (replaces p c m d) → overrider_of p c m ≡ Some k)
      go None at lt = tt
      go (Some d) at lt = λ passes. only d (overrider_of p c m) refl at passes (lt passes)

  pub not_once : (above ≤ first + 1 → ⊥) → ¬ OnceIn p c m
  not_once more once = more ((least (first + 1)).1 (λ k. go k (slice_get p.methods k) (once k)))
    where
      go : (k : ℕ) (o : Option Method) → IfSome o (λ d. IsTrue (replaces p c m d) → overrider_of p c m ≡ Some k) →
          IfSome o (λ d. IsTrue (replaces p c m d) → k < first + 1)
      go k None w = tt
      go k (Some d) w = λ passes. let here : first ≡ k = is ∙ ap number_or_none (w passes) in omega (arith, here)

-- what two tables say of a method
pub once_by : (p : Image) (c m : ℕ) (firsts above read_first read_above : List ℕ) → AreOverriders p c firsts → AreLast p c above → read_first ≡ firsts →
    read_above ≡ above → m < 1024 →
    (slice_index_or read_above m 0 ≤ slice_index_or read_first m 0 + 1 → OnceIn p c m) × ((slice_index_or read_above m 0 ≤ slice_index_or read_first m 0 + 1 → ⊥) → ¬ OnceIn p c m)
once_by p c m firsts above read_first read_above f g same_first same_above lt =
    let a = subst (AreOverriders p c) (sym same_first) f in
    let b = subst (AreLast p c) (sym same_above) g in
    let is = a.each m (slice_index_or read_first m 0) (slice_get-get_or read_first m 0 (let size = a.size in omega (arith, lt, size))) in
    let least = b.each m (slice_index_or read_above m 0) (slice_get-get_or read_above m 0 (let size = b.size in omega (arith, lt, size))) in
    (once_so p c m (slice_index_or read_first m 0) (slice_index_or read_above m 0) is least, not_once p c m (slice_index_or read_first m 0) (slice_index_or read_above m 0) is least)

-- in each class once is once in all
pub once_each : (p : Image) (methods : ℕ) → All (MethodFits p.header.version (length p.classes) methods) p.methods → (m : ℕ) →
    ((c : ℕ) → c < length p.classes → OnceIn p c m) → OverriddenOnce p m
unfolding replaces
once_each p methods fits m once k = go (slice_get p.methods k) refl
  where
    own : (d : Method) (o : Option ℕ) → slice_get p.methods k ≡ Some d → d.class ≡ o → IfSome o (λ c. c < length p.classes) → IsTrue (leads_to p d.over m) →
        IfSome o (λ c. overrider_of p c m ≡ Some k)
    own d None at of lt leads = tt
    own d (Some c) at of lt leads =
        let here : IfSome (Some d) (λ d. IsTrue (replaces p c m d) → overrider_of p c m ≡ Some k) =
        subst (λ o. IfSome o (λ d. IsTrue (replaces p c m d) → overrider_of p c m ≡ Some k)) at (once c lt k) in
        here (join (is_class c d.class) (leads_to p d.over m) (ap (is_class c) of ∙ eq-eqb c c refl) leads)

    go : (o : Option Method) → slice_get p.methods k ≡ o → IfSome o (IsOnly p m k)
    go None at = tt
    go (Some d) at = λ leads. own d d.class at refl (all_there (MethodFits p.header.version (length p.classes) methods) p.methods k d fits at).class leads

pub once_in : (p : Image) (c m : ℕ) → OverriddenOnce p m → OnceIn p c m
unfolding replaces
once_in p c m once k = go (slice_get p.methods k) (once k)
  where
    go : (o : Option Method) → IfSome o (IsOnly p m k) → IfSome o (λ d. IsTrue (replaces p c m d) → overrider_of p c m ≡ Some k)
    go None w = tt
    go (Some d) w = λ passes.
        let w2 = both (is_class c d.class) (leads_to p d.over m) passes in
        subst (λ o. IfSome o (λ e. overrider_of p e m ≡ Some k)) (class_is c d.class w2.0) (w w2.1)

-- the first that overrides a method that is overridden twice
pub other_so : (p : Image) (m : ℕ) (o : Option ℕ) → m < length p.methods → (¬ OverriddenOnce p m) → FirstOf (IsOnly p m) p.methods o → OtherOverrider p o
other_so p m None lt twice h = absurd (twice h)
other_so p m (Some k) lt twice h = (m, lt, h)

-- of one class more
pub least_of : (p : Image) (c a b n : ℕ) → n ≡ min a b → ((x m : ℕ) → x < c → m < a → OnceIn p x m) → (a < length p.methods → ¬ OverriddenOnce p a) →
    a ≤ length p.methods → FirstTwiceIn p c b →
    (n ≤ length p.methods) × ((x m : ℕ) → x < c + 1 → m < n → OnceIn p x m) × (n < length p.methods → ¬ OverriddenOnce p n)
least_of p c a b n is before twice within found = (
  omega (arith, is, within),
  λ x m lt less. ⊎_elim (λ (earlier : x < c). before x m earlier (omega (arith, less, is)))
      (λ (last : c ≤ x). subst (λ y. OnceIn p y m) (omega (arith, last, lt)) (found.before m (omega (arith, less, is)))) (cases_lt x c),
  λ lt once. ⊎_elim (λ (first : a < b). let here : n ≡ a = omega (arith, is, first) in twice (omega (arith, lt, here)) (subst (OverriddenOnce p) here once))
      (λ (second : b ≤ a). let here : n ≡ b = omega (arith, is, second) in found.twice (omega (arith, lt, here)) (once_in p c b (subst (OverriddenOnce p) here once))) (cases_lt a b),
)

-- where the first that is overridden twice is none of them, each is overridden once
pub all_once : (p : Image) (n : ℕ) → FirstTwice p n → n ≡ length p.methods → AllOverriddenOnce p
all_once p n h end m = go (slice_get p.methods m) refl
  where
    go : (o : Option Method) → slice_get p.methods m ≡ o → IfSome o (λ e. OverriddenOnce p m)
    go None at = tt
    go (Some d) at = h.before m (let within = slice_get_within p.methods m d at in omega (arith, within, end))
