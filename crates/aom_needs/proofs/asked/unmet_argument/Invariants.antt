-- Those before are met.
use Rattle.std.proofs.Common.{◌≡◌, ◌+◌, drop}
use Rattle.aom_needs.specs.Asked.{each_wanted}
use Rattle.aom_needs.specs.Wanted.{first_unmet}
use Rattle.aom_needs.proofs.asked.unmet_argument.Given as goal

abbrev pub invariant-loop-index : goal.invariant-loop-index
invariant-loop-index l =
    first_unmet l.site.image l.site.method l.site.shape (each_wanted l.arguments l.first)
    ≡ first_unmet l.site.image l.site.method l.site.shape (each_wanted (drop l.index l.arguments) (l.first + l.index))
