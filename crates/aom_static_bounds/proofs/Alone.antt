-- Of an image without parents and overriders: a line is one destructor, and what stands for a thing or runs in the place of a method is that one.
use Rattle.std.proofs.lemmas.Bool.Decides.{nat_tests}
use Rattle.std.proofs.Common.{None, Option, Some, ap, arith, false, length, refl, subst, ℕ, ◌∙◌, ◌≡◌}
use Rattle.std.proofs.lemmas.List.Elements.{All-get_or}
use Rattle.std.proofs.lemmas.Option.{get_or_from_slice_get, slice_get_within}
use Rattle.aom_image.specs.Image.{Image}
use Rattle.aom_image.specs.Views.{method_at}
use Rattle.aom_image.specs.declared.method.Method.{Method}
use Rattle.aom_image.specs.declared.method.Role.TheVariants.{Destruct}
use Rattle.aom_image.specs.declared.method.Thing.{Thing}
use Rattle.aom_static_bounds.proofs.RolesLemmas.{child, itself, one_class}
use Rattle.aom_roles.specs.Families.{HasNoParents, parent_of}
use Rattle.aom_static_bounds.proofs.LinkConditionsLemmas.{none_leads, role_alone}
use Rattle.aom_link_conditions.specs.Overriding.{OverridesNothing}
use Rattle.aom_link_conditions.specs.Overriding.{leads_in, over_in, overrides}
use Rattle.aom_link_conditions.specs.Roles.{destructor_of}
use Rattle.aom_static_bounds.specs.Layers.{MayRun}
use Rattle.aom_static_bounds.specs.Most.{line, most_below, most_run, most_standing}
use Rattle.aom_static_bounds.proofs.Maxima.{below_least, most_least}

-- ---- parents

pub parentless : (p : Image) → HasNoParents p → (c : ℕ) → parent_of p c ≡ None
parentless p none c = go (parent_of p c) refl
  where
    go : (o : Option ℕ) → parent_of p c ≡ o → o ≡ None
    go None is = refl
    go (Some e) is = grind (arith, one_class p none c e (child p c e e is (itself p e)))

pub line_alone : (p : Image) → HasNoParents p → (cost : Option ℕ → ℕ) → cost None ≡ 0 → (x : Thing) → line p cost x ≡ cost (destructor_of p x)
line_alone p none cost nobody x = grind (arith, nat_tests, role_alone p Destruct none, parentless p none)

pub below_alone : (p : Image) → HasNoParents p → (f : ℕ → ℕ) (c : ℕ) → most_below p f c ≡ f c
below_alone p none f c = grind (arith, below_least p f c (f c), one_class p none)

pub standing_alone : (p : Image) → HasNoParents p → (f : Thing → ℕ) (x : Thing) → most_standing p f x ≡ f x
standing_alone p none f x = grind (arith, nat_tests, below_alone p none)

-- ---- overriders

over_nothing : (p : Image) → OverridesNothing p → (k : ℕ) → over_in (method_at p k) ≡ None
unfolding over_in method_at
over_nothing p plain k = go (method_at p k) refl
  where
    go : (o : Option Method) → method_at p k ≡ o → over_in o ≡ None
    go None at = refl
    go (Some d) at = subst (λ d. d.over ≡ None) (get_or_from_slice_get p.methods k d d at)
        (All-get_or (λ d. d.over ≡ None) p.methods k d (slice_get_within p.methods k d at) plain)

pub overrides_nothing : (p : Image) → OverridesNothing p → (k m : ℕ) → overrides p k m ≡ false
overrides_nothing p plain k m = ap (λ o. leads_in p (length p.methods) o m) (over_nothing p plain k) ∙ none_leads p (length p.methods) m

pub run_alone : (p : Image) → OverridesNothing p → (f : ℕ → ℕ) (m : ℕ) → most_run p f m ≡ f m
run_alone p plain f m =
    let rest = most_least (λ k. overrides p k m) f (length p.methods) 0 (λ k lt over. let nothing = overrides_nothing p plain k m in absurd cc) in
    omega (arith, rest)

pub runs_named : (p : Image) → OverridesNothing p → (j k : ℕ) → MayRun p j k → j ≡ k
runs_named p plain j k x = grind (arith, nat_tests, overrides_nothing p plain k j)
