-- What is out, and then the words that are left, is all.
use Rattle.std.proofs.Common.{◌≡◌, ◌++◌, ℕ, List, length}
use Rattle.aom_transcript.specs.Sinks.{after}
use Rattle.aom_diagnostics.specs.Sources.{spaced}
use Rattle.aom_debug_views.proofs.sending.send_words.Given as goal

abbrev pub invariant-loop-word : goal.invariant-loop-word
invariant-loop-word g l = (done : List ℕ) × (g.W.Sink.out l.out ≡ after (g.W.Sink.out l.initial.out) done) × (done ++ spaced l.words ≡ spaced l.fn.words)

abbrev pub decreases-loop-word : goal.decreases-loop-word
decreases-loop-word g l = length l.words
