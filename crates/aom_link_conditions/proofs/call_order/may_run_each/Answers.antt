use Rattle.aom_link_conditions.specs.Calls.{RunsBelow}
use Rattle.aom_link_conditions.proofs.Each.{none_first_all}
use Rattle.aom_link_conditions.proofs.call_order.may_run_each.Goals as goal

pub returns : goal.returns
returns c = none_first_all (RunsBelow c.args.image.now c.args.number c.args.method.now.class) _ _ _ c.is_none.ensures c.first_early.ensures
