use Rattle.std.proofs.Common.{rules}
use Rattle.aom_diagnostics.proofs.table.script_entry.Goals as goal

pub returns-in-TimeBack : goal.returns-in-TimeBack
returns-in-TimeBack c = search rules
