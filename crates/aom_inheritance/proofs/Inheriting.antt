-- What a class has from those that it descends from, by the step from a parent to its child.
use Rattle.std.proofs.Common.{true, Option, Some, None, IfSome, ap, arith, refl, slice_get, get_or, subst, sym, ℕ, ◌∙◌, ◌≡◌, ◌≤◌}
use Rattle.std.proofs.lemmas.Option.{slice_get-get_or, slice_get_within}
use Rattle.aom_image.specs.Image.{Image}
use Rattle.aom_image.specs.Views.{class_at, fields_in, fields_of}
use Rattle.aom_image.specs.declared.class.ClassDecl.{ClassDecl}
use Rattle.aom_image.specs.declared.method.Thing.{Thing}
use Rattle.aom_roles.specs.Classes.{kind_at, kind_in}
use Rattle.aom_roles.specs.Families.{descends, lower, parent_in, parent_of}
use Rattle.aom_inheritance.proofs.RolesLemmas.{along, parent_below}
use Rattle.aom_link_conditions.specs.Families.{AllContinue, Continues, ContinuesParent}
use Rattle.aom_inheritance.proofs.LinkConditionsLemmas.{all_there, role_inherits}
use Rattle.aom_inheritance.specs.Laws.{FamiliesInherit}

-- ---- a child and its parent

-- a class with a parent is there, and declares it
pub declared : (p : Image) (c e : ℕ) → parent_of p c ≡ Some e → (d : ClassDecl) × (class_at p c ≡ Some d) × (d.parent ≡ Some e)
unfolding parent_in
declared p c e is = go (class_at p c) refl is
  where
    named : (o : Option ℕ) → lower c o ≡ Some e → o ≡ Some e
    named None is = cc
    named (Some f) is = grind arith

    go : (o : Option ClassDecl) → class_at p c ≡ o → lower c (parent_in o) ≡ Some e → (d : ClassDecl) × (class_at p c ≡ Some d) × (d.parent ≡ Some e)
    go None at is = cc
    go (Some d) at is = (d, at, named d.parent is)

pub record Continued (p : Image) (c e : ℕ) : Type 0 where
  pub child : ClassDecl
  pub parent : ClassDecl
  pub at : class_at p c ≡ Some child
  pub above : class_at p e ≡ Some parent
  pub named : child.parent ≡ Some e
  pub continues : Continues child parent

pub continued : (p : Image) → AllContinue p → (c e : ℕ) → parent_of p c ≡ Some e → Continued p c e
unfolding class_at
continued p fit c e is =
    let own = declared p c e is in
    let within = slice_get_within p.classes c own.0 own.1 in
    let lt = parent_below p c e is in
    let above = slice_get-get_or p.classes e own.0 (omega (arith, within, lt)) in
    let named : IfSome (Some e) (λ e. IfSome (class_at p e) (Continues own.0)) =
    subst (λ o. IfSome o (λ e. IfSome (class_at p e) (Continues own.0))) own.2 (all_there (ContinuesParent p) p.classes c own.0 fit own.1) in
    record {
      child = own.0;
      parent = get_or p.classes e own.0;
      at = own.1;
      above = above;
      named = own.2;
      continues = subst (λ o. IfSome o (Continues own.0)) above named;
    }

-- ---- what goes from a parent to its child

fields_up : (p : Image) → AllContinue p → (c e : ℕ) → parent_of p c ≡ Some e → (f : ℕ) (t : Thing) → slice_get (fields_of p e) f ≡ Some t →
    slice_get (fields_of p c) f ≡ Some t
unfolding fields_in
fields_up p fit c e is f t h =
    let w = continued p fit c e is in
    let first : slice_get w.parent.fields f ≡ Some t = sym (ap (λ o. slice_get (fields_in o) f) w.above) ∙ h in
    ap (λ o. slice_get (fields_in o) f) w.at ∙ subst (λ o. IfSome o (λ t. slice_get w.child.fields f ≡ Some t)) first (w.continues.fields f)

kinds_up : (p : Image) → AllContinue p → (c e : ℕ) → parent_of p c ≡ Some e → kind_at p c ≡ kind_at p e
unfolding kind_in
kinds_up p fit c e is = let w = continued p fit c e is in ap kind_in w.at ∙ ap (λ k. Some k) w.continues.kind ∙ sym (ap kind_in w.above)

HasWords : Image → ℕ → ℕ → Type 0
HasWords p n c = (f : ClassDecl) → class_at p c ≡ Some f → n ≤ f.words

words_up : (p : Image) → AllContinue p → (n c e : ℕ) → parent_of p c ≡ Some e → HasWords p n e → HasWords p n c
unfolding HasWords
words_up p fit n c e is h f at =
    let w = continued p fit c e is in
    let same : w.child ≡ f = (let two = sym w.at ∙ at in cc) in
    let more = w.continues.words in
    let below = h w.parent w.above in
    subst (λ (d : ClassDecl). n ≤ d.words) same (omega (arith, more, below))

words_down : (p : Image) → AllContinue p → (c d : ℕ) → descends p c d ≡ true → (f e : ClassDecl) → class_at p c ≡ Some f → class_at p d ≡ Some e → e.words ≤ f.words
unfolding HasWords
words_down p fit c d family f e at there = along p (HasWords p e.words) d (words_up p fit e.words)
    (λ g is. let same : e ≡ g = (let two = sym there ∙ is in cc) in subst (λ (x : ClassDecl). e.words ≤ x.words) same (omega arith)) c family f at

-- ---- the law

pub families_inherit : FamiliesInherit
families_inherit = record {
  kinds = λ p fit c d family. along p (λ c. kind_at p c ≡ kind_at p d) d (λ c e is same. kinds_up p fit c e is ∙ same) refl c family;
  words = words_down;
  fields = λ p fit c d family f t g. along p (λ c. slice_get (fields_of p c) f ≡ Some t) d (λ c e is got. fields_up p fit c e is f t got) g c family;
  roles = λ p c m r e. let w = role_inherits p c m r e in
      record { method = w.method; there = w.there; class = w.class; of = w.of; role = w.role; family = w.family };
}
