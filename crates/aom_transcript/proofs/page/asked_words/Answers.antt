use Rattle.std.proofs.Common.{rules}
use Rattle.aom_transcript.proofs.page.asked_words.Goals as goal

pub returns-in-Close-clause-text : goal.returns-in-Close-clause-text
returns-in-Close-clause-text c = search rules
