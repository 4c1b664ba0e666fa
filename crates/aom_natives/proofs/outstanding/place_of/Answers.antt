use Rattle.std.proofs.Common.{rules, Contains}
use Rattle.aom_natives.proofs.Ids.{owed-contains}
use Rattle.aom_natives.proofs.outstanding.place_of.Goals as goal

pub unreachable-requires : goal.unreachable-requires
unreachable-requires c = let has : Contains c.args.ids.now c.args.id = owed-contains _ _ c.requires in search rules
