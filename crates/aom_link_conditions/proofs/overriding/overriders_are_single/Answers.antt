use Rattle.aom_link_conditions.proofs.Places.{none_other}
use Rattle.aom_link_conditions.proofs.overriding.overriders_are_single.Goals as goal

pub returns : goal.returns
returns c =
    none_other c.args.image.now _ _ c.is_none.ensures c.second_overrider.ensures
