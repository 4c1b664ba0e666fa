use Rattle.std.proofs.Common.{sym, ◌∙◌}
use Rattle.aom_abstract_state.proofs.Meeting.{met_more, met_none}
use Rattle.aom_abstract_state.proofs.order.meet_kinds.Goals as goal

pub returns-in_err-kinds-clause-none : goal.returns-in_err-kinds-clause-none
returns-in_err-kinds-clause-none c =
    λ e. met_none c.args.a.now c.args.b.now c.loop-index.index _ _ c.loop-index-test.true c.type_inv.a c.type_inv.b (sym c.meet.ensures ∙ c.in_err-kinds.was)

pub loop-index-preserved : goal.loop-index-preserved
loop-index-preserved c = met_more c.args.a.now c.args.b.now c.loop-index.kinds c.loop-index.index _ _ _ c.loop-index.invariant c.loop-index-test.true
    c.type_inv.a c.type_inv.b (sym c.meet.ensures ∙ c.in_ok-kinds.was)
