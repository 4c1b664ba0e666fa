use Rattle.std.proofs.Common.{rules}
use Rattle.aom_cells.proofs.sessions.Sessions.open.Goals as goal

pub returns : goal.returns
returns c = search rules
