-- The bytes so far are of a word.
use Rattle.std.proofs.Common.{◌≡◌, ◌≤◌, ◌+◌, ◌-◌, drop, length}
use Rattle.aom_language_answers.specs.Diagnostics.{word_bytes}
use Rattle.aom_language_answers.proofs.diagnosing.word_bytes.Given as goal

abbrev pub invariant-loop-count : goal.invariant-loop-count
invariant-loop-count l = record { within : l.count ≤ length l.rest; so_far : word_bytes l.rest ≡ l.count + word_bytes (drop l.count l.rest) }

abbrev pub decreases-loop-count : goal.decreases-loop-count
decreases-loop-count l = length l.rest - l.count
