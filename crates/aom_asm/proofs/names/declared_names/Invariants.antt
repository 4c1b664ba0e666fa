use Rattle.std.proofs.Common.{◌≡◌, length, []}
use Rattle.aom_asm.specs.TextNames.{declared_names}
use Rattle.aom_asm.proofs.names.declared_names.Given as goal

abbrev pub invariant-loop-statement : goal.invariant-loop-statement
invariant-loop-statement l = declared_names l.fn.key [] l.fn.text ≡ declared_names l.key l.names l.text

abbrev pub decreases-loop-statement : goal.decreases-loop-statement
decreases-loop-statement l = length l.text
