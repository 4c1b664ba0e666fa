use Rattle.std.proofs.Common.{◌∙◌, Some, inr, subst, sym}
use Rattle.aom_link_conditions.specs.Overriding.{OtherOverrider, MayOverrideNamed}
use Rattle.aom_link_conditions.specs.Places.{AtOverride, IsThere}
use Rattle.aom_link_conditions.proofs.Places.{none_all}
use Rattle.aom_link_conditions.proofs.place.override_place.Goals as goal

pub returns-in-Some-second_overrider : goal.returns-in-Some-second_overrider
returns-in-Some-second_overrider c =
    let p = c.args.image.now in
    let stand = none_all (MayOverrideNamed p) _ _ _ (c.as_slice.ensures ∙ c.methods.ensures.value) c.first_bad_override.ensures c.in_default.is in
    let other : OtherOverrider p (Some c.in-Some-second_overrider.method) = subst (OtherOverrider p) c.in-Some-second_overrider.is c.second_overrider.ensures in
    subst (λ x. IsThere p x × AtOverride p x) (sym c.in_method-in-Some-second_overrider.ensures) (other.2.there, inr (stand, other))

pub returns-in-None : goal.returns-in-None
returns-in-None c = record {
  each = none_all (MayOverrideNamed c.args.image.now) _ _ _ (c.as_slice.ensures ∙ c.methods.ensures.value) c.first_bad_override.ensures c.in_default.is;
  once = subst (OtherOverrider c.args.image.now) c.in-None.is c.second_overrider.ensures;
}
