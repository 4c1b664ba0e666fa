-- What is sought in the text is what is sought in the rest of it, with as many before it as are left.
use Rattle.std.proofs.Common.{◌≡◌, ◌+◌, length, slice_get}
use Rattle.std.specs.List.{filter}
use Rattle.aom_diagnostics.specs.Declarations.{begins, part}
use Rattle.aom_diagnostics.proofs.finding.declaration.Given as goal

abbrev pub invariant-loop-statement : goal.invariant-loop-statement
invariant-loop-statement l = record {
  one : slice_get (filter (begins l.fn.key) l.fn.text) l.fn.number ≡ slice_get (filter (begins l.fn.key) l.text) l.before;
  body : part (begins l.fn.key) l.fn.text (l.fn.number + 1) ≡ part (begins l.fn.key) l.text (l.before + 1);
}

abbrev pub decreases-loop-statement : goal.decreases-loop-statement
decreases-loop-statement l = length l.text
