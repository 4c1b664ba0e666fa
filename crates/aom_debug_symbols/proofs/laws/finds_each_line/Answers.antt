-- A line in which an instruction stands is found.
use Rattle.aom_debug_symbols.proofs.Lined.{finds_line}
use Rattle.aom_debug_symbols.proofs.laws.finds_each_line.Goals as goal

pub returns : goal.returns
returns c = finds_line
