use Rattle.std.proofs.Common.{rules}
use Rattle.aom_command_line.proofs.args.limit_arg.Goals as goal

pub returns-clause-rule : goal.returns-clause-rule
returns-clause-rule c = search rules
