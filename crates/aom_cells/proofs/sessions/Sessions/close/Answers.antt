use Rattle.std.proofs.Common.{rules}
use Rattle.aom_cells.proofs.sessions.Sessions.close.Goals as goal

pub returns-then-place-len : goal.returns-then-place-len
returns-then-place-len c = search rules
