use Rattle.std.proofs.Common.{refl}
use Rattle.aom_abstract_state.proofs.Meeting.{met, kinds_meet}
use Rattle.aom_abstract_state.proofs.order.meet_known.Goals as goal

pub returns-clause-some : goal.returns-clause-some
returns-clause-some c = λ xs ys e same. rw (← c.a.view_is, ← c.b.view_is) (met _ _ _ c.a.invariant.0 c.b.invariant.0 c.a.invariant.1 c.b.invariant.1
    c.in_ok-registers.ensures.some c.meet_fillings-fields.ensures refl e (c.union-states.ensures tt) refl (rw (← c.a.view_is, ← c.b.view_is) at same))

pub returns-clause-met : goal.returns-clause-met
returns-clause-met c = rw (← c.a.view_is, ← c.b.view_is) (kinds_meet _ _ _ c.a.invariant.0 c.b.invariant.0 c.in_ok-registers.ensures.some)
