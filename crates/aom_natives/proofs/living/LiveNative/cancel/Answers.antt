use Rattle.aom_natives.proofs.Ids.{agrees-out, owed-at}
use Rattle.aom_natives.proofs.living.LiveNative.cancel.Goals as goal

pub returns-clause-agree : goal.returns-clause-agree
returns-clause-agree g c = agrees-out _ _ c.requires.agree _ _ _ c.take_out.ensures c.cancel_box.ensures

pub returns-clause-ids : goal.returns-clause-ids
returns-clause-ids g c = c.take_out.ensures

pub take_out-requires : goal.take_out-requires
take_out-requires g c = c.requires.owed

pub cancel_box-requires : goal.cancel_box-requires
cancel_box-requires g c = owed-at _ _ c.requires.agree _ c.requires.owed
