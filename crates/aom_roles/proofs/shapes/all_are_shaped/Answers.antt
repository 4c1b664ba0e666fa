use Rattle.std.proofs.Common.{◌∙◌, subst}
use Rattle.aom_roles.specs.Firsts.{FirstOf}
use Rattle.aom_roles.specs.Shapes.{IsShaped}
use Rattle.aom_roles.proofs.Each.{none_first_all}
use Rattle.aom_roles.proofs.shapes.all_are_shaped.Goals as goal

pub returns : goal.returns
returns c =
    let same = c.as_slice.ensures ∙ c.methods.ensures.value in
    none_first_all (IsShaped c.args.image.now) _ _ _ c.is_none.ensures
    (subst (λ ms. FirstOf (λ _. IsShaped c.args.image.now) ms c.first_unshaped.result) same c.first_unshaped.ensures)
