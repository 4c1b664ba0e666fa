use Rattle.std.proofs.Common.{subst, ◌∙◌}
use Rattle.aom_link_conditions.specs.Loops.{LoopsNest}
use Rattle.aom_roles.specs.Firsts.{FirstOf}
use Rattle.aom_link_conditions.proofs.Each.{none_first}
use Rattle.aom_link_conditions.proofs.loops.all_loops_nest.Goals as goal

pub returns : goal.returns
returns c =
    let same = c.as_slice.ensures ∙ c.methods.ensures.value in
    none_first (λ _ d. LoopsNest d.code) _ _ _ c.is_none.ensures
    (subst (λ xs. FirstOf (λ _ d. LoopsNest d.code) xs c.first_unnested.result) same c.first_unnested.ensures)
