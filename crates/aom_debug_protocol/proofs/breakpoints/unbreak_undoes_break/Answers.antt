-- What was set last is taken away.
use Rattle.aom_debug_protocol.proofs.Marking.{unbreak_undoes}
use Rattle.aom_debug_protocol.proofs.breakpoints.unbreak_undoes_break.Goals as goal

pub returns : goal.returns
returns c = unbreak_undoes
