use Rattle.std.proofs.Common.{sym}
use Rattle.aom_text.proofs.Parting.{worded_first, worded_only}
use Rattle.aom_text.proofs.text.split_part.Goals as goal

pub returns-in-Some-clause-parts : goal.returns-in-Some-clause-parts
returns-in-Some-clause-parts c = worded_first _ _ (sym c.in-Some.ensures)

pub returns-in-None-clause-parts : goal.returns-in-None-clause-parts
returns-in-None-clause-parts c = worded_only c.args.code.now (sym c.in-None.ensures)
