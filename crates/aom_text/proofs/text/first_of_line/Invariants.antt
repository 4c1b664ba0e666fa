use Rattle.std.proofs.Common.{◌≡◌, length}
use Rattle.aom_text.specs.Text.{worded}
use Rattle.aom_text.proofs.text.first_of_line.Given as goal

abbrev pub invariant-loop-code : goal.invariant-loop-code
invariant-loop-code l = worded l.fn.line.code.now ≡ worded l.code

abbrev pub decreases-loop-code : goal.decreases-loop-code
decreases-loop-code l = length l.code
