use Rattle.std.proofs.Common.{rules}
use Rattle.aom_diagnostics.proofs.known.write_age.Goals as goal

pub returns-in-Fresh : goal.returns-in-Fresh
returns-in-Fresh c = search rules
