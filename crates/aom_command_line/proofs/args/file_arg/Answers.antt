-- A file's rule is that of a new argument, but for its being required.
use Rattle.std.proofs.Common.{ap, true}
use Rattle.clap.specs.Words.{Rule}
use Rattle.aom_command_line.proofs.args.file_arg.Goals as goal

pub returns-clause-rule : goal.returns-clause-rule
returns-clause-rule c = rw (c.required.ensures, c.help.ensures) (ap (λ (s : Rule). record s { required = true }) c.new.ensures.rule)

pub returns-clause-own : goal.returns-clause-own
returns-clause-own c = rw (c.required.ensures, c.help.ensures) c.new.ensures.optional.1
