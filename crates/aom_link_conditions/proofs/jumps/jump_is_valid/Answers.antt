use Rattle.aom_link_conditions.proofs.Places.{none_bad}
use Rattle.aom_link_conditions.proofs.jumps.jump_is_valid.Goals as goal

pub returns : goal.returns
returns c =
    none_bad c.args.code.now _ _ c.is_none.ensures c.bad_jump.ensures
