-- A class without overriders of its own.
use Rattle.std.proofs.Common.{Bool, List, Option, Some, None, [], ap, arith, cond, false, is_some, length, refl, true, ℕ, ◌∷◌, ◌&&◌, ◌∙◌, ◌≡◌}
use Rattle.std.specs.Prelude.{nat_lt, position, slice_index_or, slice_get}
use Rattle.std.proofs.lemmas.Bool.{le-ltb}
use Rattle.std.proofs.lemmas.List.Sums.{position_or_len_is}
use Rattle.std.proofs.lemmas.Option.{slice_get-get_or}
use Rattle.aom_image.specs.Image.{Image}
use Rattle.aom_image.specs.declared.method.Method.{Method}
use Rattle.aom_link_conditions.specs.Roles.{is_class}
use Rattle.aom_link_conditions.specs.Overriding.{body_by, body_of, leads_to, overrider_of, replaces}
use Rattle.aom_linker.specs.Bodies.{OverridesNothingIn, body_above, overrides_in}
use Rattle.aom_linker.proofs.LinkConditionsLemmas.{all_there, none_leads}
use Rattle.aom_linker.proofs.Nearest.{by_parent}

-- the test that a search makes fails each time, so nothing is found
pub none_passes : {X : Type 0} (test : X → Bool) (xs : List X) → ((k : ℕ) (x : X) → slice_get xs k ≡ Some x → test x ≡ false) → position test xs ≡ None
none_passes test [] fails = refl
none_passes test (y ∷ ys) fails =
    let xs = y ∷ ys in
    let all = position_or_len_is test xs (length xs) y (omega arith) (λ k lt. fails k (slice_index_or xs k y) (slice_get-get_or xs k y lt))
    (λ lt. absurd (omega arith)) in
    ap (λ l. cond (nat_lt l (length xs)) (Some l) None) all ∙ ap (λ t. cond t (Some (length xs)) None) (le-ltb (length xs) (length xs) (omega arith))

and_false : (a : Bool) → (a && false) ≡ false
and_false true = refl
and_false false = refl

-- a class none of whose methods overrides has nothing in the place of any method
pub no_overrider : (p : Image) (c m : ℕ) → OverridesNothingIn p c → overrider_of p c m ≡ None
unfolding overrider_of replaces
no_overrider p c m none = none_passes (replaces p c m) p.methods (λ k d at. go (is_class c d.class) d.over
    (all_there (λ (e : Method). overrides_in c e ≡ false) p.methods k d none at))
  where
    go : (b : Bool) (o : Option ℕ) → (b && is_some o) ≡ false → (b && leads_to p o m) ≡ false
    go false o h = refl
    go true None h = none_leads p (length p.methods) m
    go true (Some k) h = absurd (cc)

-- where it has nothing itself, and a call on an object of its parent runs the method named, so does one on its own
pub bare : (p : Image) (c m : ℕ) → overrider_of p c m ≡ None → body_above p m c ≡ m → body_of p m (Some c) ≡ m
bare p c m none above = by_parent p m c ∙ ap (body_by (body_above p m c)) none ∙ above
