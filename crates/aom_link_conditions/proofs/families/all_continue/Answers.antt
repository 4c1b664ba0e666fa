use Rattle.std.proofs.Common.{subst, ◌∙◌}
use Rattle.aom_link_conditions.specs.Families.{ContinuesParent}
use Rattle.aom_roles.specs.Firsts.{FirstOf}
use Rattle.aom_link_conditions.proofs.Each.{none_first_all}
use Rattle.aom_link_conditions.proofs.families.all_continue.Goals as goal

pub returns : goal.returns
returns c =
    let same = c.as_slice.ensures ∙ c.classes.ensures.value in
    none_first_all (ContinuesParent c.args.image.now) _ _ _ c.is_none.ensures
    (subst (λ xs. FirstOf (λ _. ContinuesParent c.args.image.now) xs c.first_bad_child.result) same c.first_bad_child.ensures)
