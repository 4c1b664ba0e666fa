-- In one line of a file it is told the same of any text.
use Rattle.aom_diagnostic_commands.proofs.telling.Telling.refuse_text.Goals as goal

pub returns-in-AsLine : goal.returns-in-AsLine
returns-in-AsLine g c = rw c.in-AsLine.is (c.line_text.ensures c.args.text.now)
