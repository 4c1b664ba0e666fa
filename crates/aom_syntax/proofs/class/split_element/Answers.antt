use Rattle.std.proofs.Common.{sym, ◌==◌}
use Rattle.aom_syntax.proofs.TextLemmas.{split_none, split_some}
use Rattle.aom_syntax.proofs.class.split_element.Goals as goal

pub returns-in-Some-clause-parts : goal.returns-in-Some-clause-parts
returns-in-Some-clause-parts c = split_some (λ b. b == 44) c.args.list.now c.in-Some.end (sym c.in-Some.ensures)

pub returns-in-None-clause-parts : goal.returns-in-None-clause-parts
returns-in-None-clause-parts c = split_none (λ b. b == 44) c.args.list.now (sym c.in-None.ensures)
