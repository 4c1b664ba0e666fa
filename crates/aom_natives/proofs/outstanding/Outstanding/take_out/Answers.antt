use Rattle.std.proofs.Common.{rules}
use Rattle.aom_natives.proofs.Ids.{takes-out}
use Rattle.aom_natives.proofs.outstanding.Outstanding.take_out.Goals as goal

pub returns : goal.returns
returns c = rw (c.remove.ensures.items, c.self.view_is) (takes-out _ _ _ (search rules) (search rules))
