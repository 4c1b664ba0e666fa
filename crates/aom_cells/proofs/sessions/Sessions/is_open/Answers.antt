use Rattle.std.proofs.Common.{rules}
use Rattle.aom_cells.proofs.sessions.Sessions.is_open.Goals as goal

pub returns : goal.returns
returns c = search rules
