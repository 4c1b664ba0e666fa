use Rattle.aom_abstract_state.proofs.order.weaker.Goals as goal

pub returns : goal.returns
returns c =
    let same = rw (← c.a.view_is, ← c.b.view_is) at c.has_same_entries.ensures in
    rw (← c.a.view_is, ← c.b.view_is) (c.weaker_if.ensures _ _ same)
