use Rattle.aom_natives.proofs.Ids.{answered-owed, agrees-out}
use Rattle.aom_natives.proofs.living.LiveNative.poll.Goals as goal

pub take_out-requires : goal.take_out-requires
take_out-requires g c = answered-owed _ _ c.requires.agree _ _ c.in-Some.ensures.owed

pub returns-in-Some-clause-agree : goal.returns-in-Some-clause-agree
returns-in-Some-clause-agree g c = agrees-out _ _ c.requires.agree _ _ _ c.take_out.ensures c.in-Some.ensures.owed
