use Rattle.std.proofs.Common.{subst, ◌∙◌}
use Rattle.aom_link_conditions.specs.Calls.{CallsOrdered}
use Rattle.aom_roles.specs.Firsts.{FirstOf}
use Rattle.aom_link_conditions.proofs.Each.{none_first}
use Rattle.aom_link_conditions.proofs.call_order.calls_are_ordered.Goals as goal

pub returns : goal.returns
returns c =
    let same = c.as_slice.ensures ∙ c.methods.ensures.value in
    none_first (CallsOrdered c.args.image.now) _ _ _ c.is_none.ensures
    (subst (λ xs. FirstOf (CallsOrdered c.args.image.now) xs c.first_unordered.result) same c.first_unordered.ensures)
