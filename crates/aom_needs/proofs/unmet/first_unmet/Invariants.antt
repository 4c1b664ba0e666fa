-- Those before are met.
use Rattle.std.proofs.Common.{◌≡◌, drop}
use Rattle.aom_needs.specs.Wanted.{first_unmet}
use Rattle.aom_needs.proofs.unmet.first_unmet.Given as goal

abbrev pub invariant-loop-wanted : goal.invariant-loop-wanted
invariant-loop-wanted l = first_unmet l.site.image l.site.method l.site.shape l.wants ≡ first_unmet l.site.image l.site.method l.site.shape (drop l.wanted-index l.wants)
