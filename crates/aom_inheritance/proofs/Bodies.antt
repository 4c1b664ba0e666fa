-- What a call runs is alike to what it names, by an induction over what is overridden.
use Rattle.std.proofs.Common.{Bool, IfSome, Option, Some, None, ap, false, inl, inr, length, refl, subst, suc, sym, true, zero, ℕ, ◌==◌, ◌||◌, ◌∙◌, ◌≡◌, ◌⊎◌}
use Rattle.std.proofs.lemmas.Bool.{and_parts, eqb-true}
use Rattle.aom_inheritance.proofs.ImageLemmas.{has_along, has_itself, some_given}
use Rattle.aom_image.specs.Image.{Image}
use Rattle.aom_image.specs.Views.{method_at}
use Rattle.aom_image.specs.declared.method.Method.{Method}
use Rattle.aom_image.specs.declared.method.Role.TheVariants.{Do}
use Rattle.aom_inheritance.proofs.LinkConditionsLemmas.{all_there, class_is, found, same_roles}
use Rattle.aom_link_conditions.specs.Roles.{is_class, or_else}
use Rattle.aom_inheritance.proofs.RolesLemmas.{child, itself}
use Rattle.aom_roles.specs.Families.{parent_of}
use Rattle.aom_inheritance.specs.Laws.{BodiesAreAlike, IsAlike, RunsAlike}
use Rattle.aom_link_conditions.specs.Overriding.{AllMayOverride, RequiresNoMore, MayOverride, MayOverrideNamed, body_by, body_of, found_in}
use Rattle.aom_link_conditions.specs.Overriding.{leads_in, leads_to, over_in, overridden_method, overrider_of, replaces}

-- what asks no more than one that asks no more
asks_along : (d e f : Method) → RequiresNoMore d e → RequiresNoMore e f → RequiresNoMore d f
asks_along d e f a b = record {
  leaves = λ l. b.leaves (a.leaves l);
  quiet = λ q. a.quiet (b.quiet q);
  before = has_along d.before.0 e.before.0 f.before.0 a.before b.before;
  after = has_along f.after.0 e.after.0 d.after.0 b.after a.after;
}

asks_itself : (e : Method) → RequiresNoMore e e
asks_itself e = record { leaves = λ l. l; quiet = λ q. q; before = has_itself e.before.0; after = has_itself e.after.0 }

-- what stands in the place of a method
stands : (p : Image) → AllMayOverride p → (k m : ℕ) (d e : Method) → method_at p k ≡ Some d → d.over ≡ Some m → method_at p m ≡ Some e → MayOverride p d e
unfolding method_at
stands p fit k m d e there over named = let at : IfSome (Some m) (λ m. IfSome (method_at p m) (MayOverride p d)) =
    subst (λ o. IfSome o (λ m. IfSome (method_at p m) (MayOverride p d))) over (all_there (MayOverrideNamed p) p.methods k d fit there) in
    subst (λ o. IfSome o (MayOverride p d)) named at

-- one in the place of another is alike to what that one is alike to
alike_through : (p : Image) (m x k : ℕ) (d e f : Method) → method_at p k ≡ Some d → MayOverride p d e → IsAlike p m x e f → IsAlike p m k d f
alike_through p m x k d e f there s a = record {
  there = there;
  named = a.named;
  role = same_roles d.role Do s.role ∙ sym (same_roles e.role Do s.same) ∙ a.role;
  arguments = s.arguments ∙ a.arguments;
  gives = s.gives ∙ a.gives;
  asks = asks_along d e f s.asks a.asks;
}

itself_alike : (p : Image) (m : ℕ) (e : Method) → method_at p m ≡ Some e → IsAlike p m m e e
itself_alike p m e there = record { there = there; named = there; role = refl; arguments = refl; gives = refl; asks = asks_itself e }

-- what a method overrides leads to m, so the method is alike to m
module _ (p : Image) (fit : AllMayOverride p) (m : ℕ) (e : Method) (named : method_at p m ≡ Some e) where
  none_leads : (n : ℕ) → leads_in p n None m ≡ true → ⊥
  unfolding leads_in
  none_leads zero h = cc
  none_leads (suc n) h = cc

  -- the method that is overridden, and what it is alike to
  leads_alike : (n x : ℕ) → leads_in p n (Some x) m ≡ true → (d : Method) × IsAlike p m x d e
  unfolding leads_in over_in
  leads_alike zero x h = let same = eqb-true x m h in (e, subst (λ i. IsAlike p m i e e) (sym same) (itself_alike p m e named))
  leads_alike (suc n) x h = go (x == m) refl h (λ y rest. leads_alike n y rest)
    where
      declares : (y : ℕ) (o : Option Method) → method_at p x ≡ o → over_in o ≡ Some y → (d : Method) × (method_at p x ≡ Some d) × (d.over ≡ Some y)
      declares y None f is = cc
      declares y (Some d) f is = (d, f, is)

      go : (b : Bool) → (x == m) ≡ b → (b || leads_in p n (overridden_method p x) m) ≡ true →
          ((y : ℕ) → leads_in p n (Some y) m ≡ true → (d : Method) × IsAlike p m y d e) → (d : Method) × IsAlike p m x d e
      go true same h later = (e, subst (λ i. IsAlike p m i e e) (sym (eqb-true x m same)) (itself_alike p m e named))
      go false other h later = some_given (λ o. leads_in p n o m ≡ true) (overridden_method p x) h (λ none. absurd (none_leads n none)) (λ y is rest.
          let below = later y rest in
          let own = declares y (method_at p x) refl is in
          (own.0, alike_through p m y x own.0 below.0 e own.1 (stands p fit x y own.0 below.0 own.1 own.2 below.1.there) below.1))

  -- a class has an overrider that is its own
  class_alike : (c k : ℕ) → overrider_of p c m ≡ Some k → RunsAlike p m c k e
  unfolding overrider_of replaces method_at over_in
  class_alike c k h =
      let w = found (replaces p c m) p.methods k h in
      let both = and_parts (is_class c w.0.class) (leads_to p w.0.over m) w.2 in
      some_given (λ o. leads_to p o m ≡ true) w.0.over both.1 (λ none. absurd (none_leads (length p.methods) none)) (λ x is leads.
      let below = leads_alike (length p.methods) x leads in record {
        class = c;
        method = w.0;
        of = class_is c w.0.class both.0;
        family = itself p c;
        overrides = ap (λ o. leads_to p (over_in o) m) w.1 ∙ both.1;
        alike = alike_through p m x k w.0 below.0 e w.1 (stands p fit k x w.0 below.0 w.1 is below.1.there) below.1;
      })

  raised : (c d k : ℕ) → parent_of p c ≡ Some d → RunsAlike p m d k e → RunsAlike p m c k e
  raised c d k is w = record { class = w.class; method = w.method; of = w.of; family = child p c d w.class is w.family; overrides = w.overrides; alike = w.alike }

  found_alike : (n c k : ℕ) → found_in p n (Some c) m ≡ Some k → RunsAlike p m c k e
  unfolding found_in
  found_alike zero c k h = class_alike c k h
  found_alike (suc n) c k h = go (overrider_of p c m) refl h (λ d rest. found_alike n d k rest)
    where
      none_found : (n : ℕ) → found_in p n None m ≡ Some k → ⊥
      none_found zero h = cc
      none_found (suc n) h = cc

      go : (o : Option ℕ) → overrider_of p c m ≡ o → or_else o (found_in p n (parent_of p c) m) ≡ Some k →
          ((d : ℕ) → found_in p n (Some d) m ≡ Some k → RunsAlike p m d k e) → RunsAlike p m c k e
      go (Some j) f h later = class_alike c k (f ∙ h)
      go None f h later = some_given (λ o. found_in p n o m ≡ Some k) (parent_of p c) h (λ none. absurd (none_found n none))
          (λ d is rest. raised c d k is (later d rest))

  body_alike : (c k : ℕ) → body_of p m (Some c) ≡ k → (k ≡ m) ⊎ RunsAlike p m c k e
  unfolding body_of
  body_alike c k h = go (found_in p c (Some c) m) refl h
    where
      go : (o : Option ℕ) → found_in p c (Some c) m ≡ o → body_by m o ≡ k → (k ≡ m) ⊎ RunsAlike p m c k e
      go None f h = inl (sym h)
      go (Some j) f h = inr (found_alike c c k (f ∙ ap (λ i. Some i) h))

pub bodies_are_alike : BodiesAreAlike
bodies_are_alike p fit m c k e named h = body_alike p fit m e named c k h
