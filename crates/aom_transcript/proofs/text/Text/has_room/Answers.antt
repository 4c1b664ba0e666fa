use Rattle.std.proofs.Common.{rules}
use Rattle.aom_transcript.proofs.text.Text.has_room.Goals as goal

pub returns : goal.returns
returns g c = search rules
