-- What a walk along a chain of overriding puts into a table, step by step.
use Rattle.std.proofs.Common.{◌≡◌, ◌==◌, ◌||◌, ◌∙◌, ℕ, suc, Bool, true, false, Option, Some, None, List, cond, slice_get, refl, ap, subst, sym}
use Rattle.aom_image.specs.Image.{Image}
use Rattle.aom_link_conditions.specs.Overriding.{leads_in, leads_to, overridden_method}
use Rattle.aom_link_conditions.proofs.Leading.{none_leads}

-- a table in which so many steps from a method are still to be put comes to what the whole chain puts into the table before
pub record Puts (p : Image) (over : Option ℕ) (number n : ℕ) (here : Option ℕ) (before now : List ℕ) (m x : ℕ) : Type 0 where
  pub value : ℕ
  pub there : slice_get now m ≡ Some value
  pub same : cond (leads_in p n here m) number value ≡ cond (leads_to p over m) number x

pub puts_so : (p : Image) (over : Option ℕ) (number k n : ℕ) (o here : Option ℕ) (before now : List ℕ) (m x : ℕ) → k ≡ n → o ≡ here →
    Puts p over number k o before now m x → Puts p over number n here before now m x
puts_so p over number k n o here before now m x ks os h =
    subst (λ j. Puts p over number j here before now m x) ks (subst (λ i. Puts p over number k i before now m x) os h)

one_or_both : (a b : Bool) (v y : ℕ) → cond b v (cond a v y) ≡ cond (a || b) v y
one_or_both true true v y = refl
one_or_both true false v y = refl
one_or_both false b v y = refl

pub puts_next : (p : Image) (over : Option ℕ) (number n x m y : ℕ) (before now new : List ℕ) → Puts p over number (suc n) (Some x) before now m y →
    ((m y : ℕ) → slice_get now m ≡ Some y → slice_get new m ≡ Some (cond (x == m) number y)) → Puts p over number n (overridden_method p x) before new m y
unfolding leads_in
puts_next p over number n x m y before now new h put = record {
  value = cond (x == m) number h.value;
  there = put m h.value h.there;
  same = one_or_both (x == m) (leads_in p n (overridden_method p x) m) number h.value ∙ h.same;
}

pub puts_last : (p : Image) (over : Option ℕ) (number x m y : ℕ) (before now new : List ℕ) → Puts p over number 0 (Some x) before now m y →
    ((m y : ℕ) → slice_get now m ≡ Some y → slice_get new m ≡ Some (cond (x == m) number y)) → slice_get new m ≡ Some (cond (leads_to p over m) number y)
unfolding leads_in
puts_last p over number x m y before now new h put = put m h.value h.there ∙ ap (λ z. Some z) h.same

pub puts_end : (p : Image) (over : Option ℕ) (number n m y : ℕ) (before now : List ℕ) → Puts p over number n None before now m y →
    slice_get now m ≡ Some (cond (leads_to p over m) number y)
puts_end p over number n m y before now h = h.there ∙ ap (λ z. Some z) (sym (ap (λ b. cond b number h.value) (none_leads p n m)) ∙ h.same)
