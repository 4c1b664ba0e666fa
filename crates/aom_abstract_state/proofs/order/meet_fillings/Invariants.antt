use Rattle.aom_abstract_state.specs.Meet.{MetFillings}
use Rattle.aom_abstract_state.proofs.order.meet_fillings.Given as goal

abbrev pub invariant-loop-index : goal.invariant-loop-index
invariant-loop-index l = MetFillings l.a l.b l.field_states l.index
