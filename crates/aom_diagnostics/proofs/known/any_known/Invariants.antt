-- Something is known of one of the registers so far.
use Rattle.std.proofs.Common.{◌≡◌}
use Rattle.aom_diagnostics.specs.Known.{known_below}
use Rattle.aom_diagnostics.proofs.known.any_known.Given as goal

abbrev pub invariant-loop-number : goal.invariant-loop-number
invariant-loop-number l = l.any ≡ known_below l.shape l.number
