-- What is sought in the text is what is sought in the rest of it.
use Rattle.std.proofs.Common.{◌≡◌, length}
use Rattle.aom_diagnostics.specs.Malformed.{malformed_in}
use Rattle.aom_diagnostics.proofs.malformed.malformed_in.Given as goal

abbrev pub invariant-loop-statement : goal.invariant-loop-statement
invariant-loop-statement l = malformed_in l.fn.line l.fn.text ≡ malformed_in l.fn.line l.text

abbrev pub decreases-loop-statement : goal.decreases-loop-statement
decreases-loop-statement l = length l.text
