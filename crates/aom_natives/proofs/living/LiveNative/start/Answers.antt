use Rattle.std.proofs.Common.{arith, refl}
use Rattle.std.proofs.lemmas.Int.{ints}
use Rattle.aom_natives.proofs.Ids.{new-at, agrees-taken, agrees-same}
use Rattle.aom_natives.proofs.living.LiveNative.start.Goals as goal

pub start_box-answer-requires : goal.start_box-answer-requires
start_box-answer-requires g c = new-at _ _ c.requires.agree _ c.requires.fresh

pub returns-then-answer-ge0-clause-agree : goal.returns-then-answer-ge0-clause-agree
returns-then-answer-ge0-clause-agree g c =
    agrees-taken _ _ c.requires.agree _ _ _ c.requires.fresh c.put.ensures (c.start_box-answer.ensures.taken (grind (arith, ints)))

pub returns-else-answer-ge0-clause-agree : goal.returns-else-answer-ge0-clause-agree
returns-else-answer-ge0-clause-agree g c = agrees-same _ _ c.requires.agree _ _ refl (c.start_box-answer.ensures.refused (grind (arith, ints)))
