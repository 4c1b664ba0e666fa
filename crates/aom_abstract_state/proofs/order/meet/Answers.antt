use Rattle.aom_abstract_state.proofs.order.meet.Goals as goal

pub returns-in-Ok-clause-ok : goal.returns-in-Ok-clause-ok
returns-in-Ok-clause-ok c =
    let same = rw (← c.a.view_is, ← c.b.view_is) at c.has_same_entries.ensures in
    rw (c.with_known.ensures, ← c.a.view_is, ← c.b.view_is) (rw c.in-Ok.is at c.meet_if.ensures.ok _ _ same)

pub returns-in-Err-clause-err : goal.returns-in-Err-clause-err
returns-in-Err-clause-err c =
    let same = rw (← c.a.view_is, ← c.b.view_is) at c.has_same_entries.ensures in
    rw (← c.a.view_is, ← c.b.view_is) (rw c.in-Err.is at c.meet_if.ensures.err _ _ same)
