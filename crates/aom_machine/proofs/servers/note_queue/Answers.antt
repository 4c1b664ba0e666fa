use Rattle.std.proofs.Common.{rules}
use Rattle.aom_machine.proofs.servers.note_queue.Goals as goal

pub returns-then-is_server-clause-noted : goal.returns-then-is_server-clause-noted
returns-then-is_server-clause-noted c = search rules
