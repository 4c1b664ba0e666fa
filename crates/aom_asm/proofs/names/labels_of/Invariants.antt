use Rattle.std.proofs.Common.{◌≡◌, length, []}
use Rattle.aom_asm.specs.TextNames.{labels_of}
use Rattle.aom_asm.proofs.names.labels_of.Given as goal

abbrev pub invariant-loop-statement : goal.invariant-loop-statement
invariant-loop-statement l = labels_of [] l.fn.text ≡ labels_of l.labels l.text

abbrev pub decreases-loop-statement : goal.decreases-loop-statement
decreases-loop-statement l = length l.text
