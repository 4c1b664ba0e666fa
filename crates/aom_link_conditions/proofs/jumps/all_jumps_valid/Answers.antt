use Rattle.std.proofs.Common.{subst, ◌∙◌}
use Rattle.aom_link_conditions.specs.Jumps.{JumpIsValid}
use Rattle.aom_roles.specs.Firsts.{FirstOf}
use Rattle.aom_link_conditions.proofs.Each.{none_first}
use Rattle.aom_link_conditions.proofs.jumps.all_jumps_valid.Goals as goal

pub returns : goal.returns
returns c =
    let same = c.as_slice.ensures ∙ c.methods.ensures.value in
    none_first (λ _ d. JumpIsValid d.code) _ _ _ c.is_none.ensures
    (subst (λ xs. FirstOf (λ _ d. JumpIsValid d.code) xs c.first_jumping.result) same c.first_jumping.ensures)
