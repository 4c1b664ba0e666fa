use Rattle.std.proofs.Common.{refl}
use Rattle.aom_command_line.proofs.words.dot_words.Goals as goal

pub returns-clause-asks : goal.returns-clause-asks
returns-clause-asks c = (refl, c.in_ok-image.ensures, c.in_ok-kind.ensures.asks, c.in_ok-text_of.ensures.asks)
