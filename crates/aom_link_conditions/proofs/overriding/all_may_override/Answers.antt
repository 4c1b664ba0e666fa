use Rattle.std.proofs.Common.{subst, ◌∙◌}
use Rattle.aom_link_conditions.specs.Overriding.{MayOverrideNamed}
use Rattle.aom_roles.specs.Firsts.{FirstOf}
use Rattle.aom_link_conditions.proofs.Each.{none_first_all}
use Rattle.aom_link_conditions.proofs.overriding.all_may_override.Goals as goal

pub returns : goal.returns
returns c =
    let same = c.as_slice.ensures ∙ c.methods.ensures.value in
    none_first_all (MayOverrideNamed c.args.image.now) _ _ _ c.is_none.ensures
    (subst (λ xs. FirstOf (λ _. MayOverrideNamed c.args.image.now) xs c.first_bad_override.result) same c.first_bad_override.ensures)
