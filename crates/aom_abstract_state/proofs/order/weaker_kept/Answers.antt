use Rattle.aom_abstract_state.proofs.order.weaker_kept.Goals as goal

pub returns : goal.returns
returns c = c.weaker_if.ensures _ _ c.are_same-has_same_entries.ensures
