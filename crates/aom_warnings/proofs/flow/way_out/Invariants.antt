-- No way leads out from the places so far.
use Rattle.std.proofs.Common.{◌<◌, ℕ}
use Rattle.aom_warnings.specs.Reached.{Keeps}
use Rattle.aom_warnings.proofs.flow.way_out.Given as goal

abbrev pub invariant-loop-place : goal.invariant-loop-place
invariant-loop-place l = (k : ℕ) → k < l.place → Keeps l.code l.marks k
