-- What is at the place in the text is in the rest of it, with as many before it as are left.
use Rattle.std.proofs.Common.{◌≡◌, length, slice_get}
use Rattle.aom_diagnostics.specs.Declarations.{begins, part}
use Rattle.aom_diagnostics.proofs.finding.at_place.Given as goal

abbrev pub invariant-loop-statement : goal.invariant-loop-statement
invariant-loop-statement l = slice_get (part (begins l.fn.key) l.fn.text 0) l.fn.place ≡ slice_get (part (begins l.fn.key) l.text 0) l.before

abbrev pub decreases-loop-statement : goal.decreases-loop-statement
decreases-loop-statement l = length l.text
