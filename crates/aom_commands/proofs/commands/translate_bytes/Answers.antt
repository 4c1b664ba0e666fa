-- What was not told yet is told.
use Rattle.aom_commands.proofs.Untelling.{answered}
use Rattle.aom_commands.proofs.commands.translate_bytes.Goals as goal

pub returns : goal.returns
returns g c = answered _ _ _ _ c.try_translate.ensures c.answer.ensures
