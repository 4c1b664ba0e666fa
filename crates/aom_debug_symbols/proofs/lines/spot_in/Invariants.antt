-- What is sought in the text is what is sought in the rest of it, behind as many methods and statements.
use Rattle.std.proofs.Common.{◌≡◌, length}
use Rattle.aom_debug_symbols.specs.Lines.{spot_in, spot_from}
use Rattle.aom_debug_symbols.proofs.lines.spot_in.Given as goal

abbrev pub invariant-loop-statement : goal.invariant-loop-statement
invariant-loop-statement l = spot_in l.fn.text l.fn.lines l.fn.line ≡ spot_from l.fn.lines l.fn.line l.methods l.place l.rest

abbrev pub decreases-loop-statement : goal.decreases-loop-statement
decreases-loop-statement l = length l.rest
