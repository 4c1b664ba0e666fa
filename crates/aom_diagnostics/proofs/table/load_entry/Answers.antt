use Rattle.std.proofs.Common.{rules}
use Rattle.aom_diagnostics.proofs.table.load_entry.Goals as goal

pub returns-in-BadMagic : goal.returns-in-BadMagic
returns-in-BadMagic c = search rules
