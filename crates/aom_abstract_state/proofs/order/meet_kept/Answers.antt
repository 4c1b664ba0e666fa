use Rattle.aom_abstract_state.proofs.order.meet_kept.Goals as goal

pub returns-clause-ok : goal.returns-clause-ok
returns-clause-ok c = c.meet_if.ensures.ok _ _ c.are_same-has_same_entries.ensures

pub returns-clause-err : goal.returns-clause-err
returns-clause-err c = c.meet_if.ensures.err _ _ c.are_same-has_same_entries.ensures
