use Rattle.aom_debug_protocol.proofs.Latest.{keep_last-more}
use Rattle.aom_debug_protocol.proofs.recent.notes_keep_latest.Goals as goal

pub returns : goal.returns
returns c = keep_last-more 16
