use Rattle.aom_abstract_state.proofs.Meeting.{met_more_fillings}
use Rattle.aom_abstract_state.proofs.order.meet_fillings.Goals as goal

pub loop-index-preserved : goal.loop-index-preserved
loop-index-preserved c = rw c.meet.ensures
    (met_more_fillings c.args.a.now c.args.b.now c.loop-index.field_states c.loop-index.index _ c.loop-index.invariant c.loop-index-test.true c.told-a c.told-b)
