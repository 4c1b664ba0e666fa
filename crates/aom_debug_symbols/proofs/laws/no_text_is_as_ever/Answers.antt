-- Without a text all is as ever.
use Rattle.aom_debug_symbols.proofs.Unreported.{plain_answer, plain_command}
use Rattle.aom_debug_symbols.proofs.laws.no_text_is_as_ever.Goals as goal

pub returns : goal.returns
returns c = record { answers = plain_answer; commands = plain_command }
