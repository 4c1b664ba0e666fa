-- The instruction that is found by a line stands in it.
use Rattle.aom_debug_symbols.proofs.Lined.{found_in_line}
use Rattle.aom_debug_symbols.proofs.laws.found_in_its_line.Goals as goal

pub returns : goal.returns
returns c = found_in_line
