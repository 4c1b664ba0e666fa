use Rattle.std.proofs.Common.{rules}
use Rattle.aom_transcript.proofs.text.Text.add_count.Goals as goal

pub returns-clause-text : goal.returns-clause-text
returns-clause-text g c = search rules
