use Rattle.std.proofs.Common.{inl, inr, sym, ◌∙◌}
use Rattle.aom_abstract_state.proofs.Ordering.{kinds_ended}
use Rattle.aom_abstract_state.proofs.order.kinds_are_implied.Goals as goal

pub returns : goal.returns
returns c = sym (c.loop-one.invariant ∙ kinds_ended _ _ (elim c.in-None.ensures.steps [ inl w ↦ inl w.1.0 | inr w ↦ inr w.1.0 ]))
