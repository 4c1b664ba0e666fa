use Rattle.std.proofs.Common.{subst, ◌∙◌}
use Rattle.aom_link_conditions.specs.Needs.{NeedsMet}
use Rattle.aom_roles.specs.Firsts.{FirstOf}
use Rattle.aom_link_conditions.proofs.Each.{none_first}
use Rattle.aom_link_conditions.proofs.needs.needs_are_met.Goals as goal

pub returns : goal.returns
returns c =
    let same = c.as_slice.ensures ∙ c.classes.ensures.value in
    none_first (NeedsMet c.args.image.now) _ _ _ c.is_none.ensures
    (subst (λ xs. FirstOf (NeedsMet c.args.image.now) xs c.first_missing_role.result) same c.first_missing_role.ensures)
