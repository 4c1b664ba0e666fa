use Rattle.std.proofs.Common.{rules}
use Rattle.aom_diagnostics.proofs.table.asm_entry.Goals as goal

pub returns-in-UnknownName : goal.returns-in-UnknownName
returns-in-UnknownName c = search rules
