-- No argument of the program's own is for all commands.
use Rattle.aom_command_line.proofs.args.native_arg.Goals as goal

pub returns-clause-own : goal.returns-clause-own
returns-clause-own c = rw (c.num_args.ensures.0, c.action.ensures, c.help.ensures) c.new.ensures.optional.1
