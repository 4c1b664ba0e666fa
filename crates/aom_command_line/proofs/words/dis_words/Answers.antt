use Rattle.std.proofs.Common.{refl}
use Rattle.aom_command_line.proofs.words.dis_words.Goals as goal

pub returns-clause-asks : goal.returns-clause-asks
returns-clause-asks c = (refl, c.in_ok-image.ensures, c.is_set.ensures)
