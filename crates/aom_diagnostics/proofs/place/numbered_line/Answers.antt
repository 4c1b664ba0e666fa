use Rattle.std.proofs.Common.{rules}
use Rattle.aom_diagnostics.proofs.place.numbered_line.Goals as goal

pub loop-before-init : goal.loop-before-init
loop-before-init c = search rules
