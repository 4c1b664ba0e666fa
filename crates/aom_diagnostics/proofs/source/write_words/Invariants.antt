-- What is out, and then the words that are left, is all.
use Rattle.std.proofs.Common.{◌≡◌, ◌++◌, length}
use Rattle.aom_diagnostics.specs.Sources.{spaced}
use Rattle.aom_diagnostics.proofs.source.write_words.Given as goal

abbrev pub invariant-loop-word : goal.invariant-loop-word
invariant-loop-word l = l.fn.out ++ spaced l.fn.words ≡ l.out ++ spaced l.words

abbrev pub decreases-loop-word : goal.decreases-loop-word
decreases-loop-word l = length l.words
