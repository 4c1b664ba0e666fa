use Rattle.std.proofs.Common.{rules}
use Rattle.aom_machine_instructions.proofs.cleanup.run_cleanup_entry.Goals as goal

pub returns-in-Object : goal.returns-in-Object
returns-in-Object c = search rules
