-- No argument of the program's own is for all commands.
use Rattle.aom_command_line.proofs.args.number_arg.Goals as goal

pub returns-clause-own : goal.returns-clause-own
returns-clause-own c = rw (c.default_value.ensures, c.value_parser.ensures.others, c.help.ensures, c.value_name.ensures, c.long.ensures) c.new.ensures.optional.1
