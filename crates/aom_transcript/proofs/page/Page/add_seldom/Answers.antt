use Rattle.std.proofs.Common.{rules}
use Rattle.aom_transcript.proofs.page.Page.add_seldom.Goals as goal

pub returns-in-Discard : goal.returns-in-Discard
returns-in-Discard c = search rules
