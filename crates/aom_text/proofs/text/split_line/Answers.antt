use Rattle.std.proofs.Common.{sym}
use Rattle.aom_text.proofs.Parting.{lines_first, lines_only}
use Rattle.aom_text.proofs.text.split_line.Goals as goal

pub returns-in-Some-clause-line : goal.returns-in-Some-clause-line
returns-in-Some-clause-line c = lines_first _ _ (sym c.in-Some.ensures)

pub returns-in-None-clause-line : goal.returns-in-None-clause-line
returns-in-None-clause-line c = lines_only _ (sym c.in-None.ensures) c.requires
