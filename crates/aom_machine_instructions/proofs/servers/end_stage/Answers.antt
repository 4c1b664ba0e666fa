use Rattle.std.proofs.Common.{rules}
use Rattle.aom_machine_instructions.proofs.servers.end_stage.Goals as goal

pub returns-in-ServiceLeft : goal.returns-in-ServiceLeft
returns-in-ServiceLeft c = search rules
