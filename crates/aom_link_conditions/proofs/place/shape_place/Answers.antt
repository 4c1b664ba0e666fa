use Rattle.std.proofs.Common.{◌∙◌, subst, sym}
use Rattle.aom_roles.specs.Firsts.{FirstOf}
use Rattle.aom_roles.specs.Shapes.{IsShaped, NamesRoles}
use Rattle.aom_link_conditions.specs.Places.{AtInstruction, IsThere}
use Rattle.aom_link_conditions.proofs.Places.{instruction_found, none_all, read_first}
use Rattle.aom_link_conditions.proofs.place.shape_place.Goals as goal

pub returns-in-Some : goal.returns-in-Some
returns-in-Some c =
    let p = c.args.image.now in
    let same = c.as_slice-methods.ensures ∙ c.methods.ensures.value in
    let found = read_first (λ _. IsShaped p) _ _ _ _ _ same c.first_unshaped.ensures c.in-Some.is c.index-methods-number.is in
    let code = subst (λ code. FirstOf (λ _. NamesRoles p) code c.first_misnaming-place.result) c.as_slice.ensures c.first_misnaming-place.ensures in
    subst (λ x. IsThere p x × AtInstruction p (λ _. IsShaped p) (λ _ _. NamesRoles p) x) (sym c.in_method.ensures)
    (instruction_found p (λ _. IsShaped p) (λ _ _. NamesRoles p) _ _ _ found.0 found.1 code)

pub returns-in-None : goal.returns-in-None
returns-in-None c =
    none_all (IsShaped c.args.image.now) _ _ _ (c.as_slice-methods.ensures ∙ c.methods.ensures.value) c.first_unshaped.ensures c.in-None.is
