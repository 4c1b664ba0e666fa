use Rattle.std.proofs.Common.{rules}
use Rattle.aom_script.proofs.line.event_within.Goals as goal

pub returns-in_ok-command_within-in-OfClient : goal.returns-in_ok-command_within-in-OfClient
returns-in_ok-command_within-in-OfClient c = search rules
