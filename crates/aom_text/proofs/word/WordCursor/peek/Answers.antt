use Rattle.std.proofs.Common.{rules}
use Rattle.aom_text.proofs.word.WordCursor.peek.Goals as goal

pub returns-in-Some : goal.returns-in-Some
returns-in-Some c = search rules
