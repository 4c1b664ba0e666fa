use Rattle.std.proofs.Common.{rules}
use Rattle.aom_transcript.proofs.page.Page.add_ending.Goals as goal

pub returns-in-Stopped-clause-text : goal.returns-in-Stopped-clause-text
returns-in-Stopped-clause-text c = search rules
