use Rattle.std.proofs.Common.{◌≡◌}
use Rattle.aom_roles.specs.Families.{descends}
use Rattle.aom_roles.proofs.families.descends.Given as goal

abbrev pub invariant-loop-ancestor : goal.invariant-loop-ancestor
invariant-loop-ancestor l = descends l.fn.image l.fn.class l.ancestor ≡ descends l.fn.image l.here l.ancestor

abbrev pub decreases-loop-ancestor : goal.decreases-loop-ancestor
decreases-loop-ancestor l = l.here
