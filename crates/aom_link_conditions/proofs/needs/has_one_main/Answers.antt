use Rattle.aom_link_conditions.proofs.Places.{one_main}
use Rattle.aom_link_conditions.proofs.needs.has_one_main.Goals as goal

pub returns : goal.returns
returns c =
    one_main c.args.methods.now _ _ c.is_none.ensures c.second_main.ensures
