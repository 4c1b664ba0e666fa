use Rattle.aom_link_conditions.specs.Needs.{ClassSingle}
use Rattle.aom_link_conditions.proofs.Each.{none_first}
use Rattle.aom_link_conditions.proofs.needs.is_each_single.Goals as goal

pub returns : goal.returns
returns c =
    none_first (λ k _. ClassSingle c.args.methods.now k) _ _ _ c.is_none.ensures c.first_double.ensures
