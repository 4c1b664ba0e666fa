-- Without a command nothing is asked.
use Rattle.clap.specs.Words.{subcommand_rows_of}
use Rattle.aom_command_line.proofs.Reading.{nothing_met}
use Rattle.aom_command_line.proofs.words.words_of.Goals as goal

pub returns-in-None-clause-declines : goal.returns-in-None-clause-declines
returns-in-None-clause-declines c = nothing_met (subcommand_rows_of c.args.matches.now) c.in-None.ensures.rows
