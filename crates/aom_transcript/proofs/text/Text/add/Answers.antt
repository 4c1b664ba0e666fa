use Rattle.std.proofs.Common.{rules}
use Rattle.aom_transcript.proofs.text.Text.add.Goals as goal

pub returns-clause-long : goal.returns-clause-long
returns-clause-long g c = search rules

pub returns-clause-text : goal.returns-clause-text
returns-clause-text g c = search rules
