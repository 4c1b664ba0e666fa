use Rattle.std.proofs.Common.{refl}
use Rattle.aom_command_line.proofs.words.compile_words.Goals as goal

pub returns-clause-asks : goal.returns-clause-asks
returns-clause-asks c = (refl, c.in_ok-source.ensures, c.is_set.ensures)
