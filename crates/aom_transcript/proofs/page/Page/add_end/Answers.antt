use Rattle.std.proofs.lemmas.Grind.{common_steps}
use Rattle.std.proofs.Common.{arith}
use Rattle.aom_transcript.proofs.page.Page.add_end.Goals as goal

pub returns : goal.returns
returns c = grind (arith, common_steps)
