use Rattle.std.proofs.Common.{rules}
use Rattle.aom_text.proofs.word.is_plain.Goals as goal

pub returns-then-matches : goal.returns-then-matches
returns-then-matches c = search rules
