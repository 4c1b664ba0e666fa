use Rattle.std.proofs.Common.{◌≡◌, count_by, take}
use Rattle.aom_link_conditions.specs.Roles.{fills_role}
use Rattle.aom_link_conditions.proofs.needs.at_most_one.Given as goal

abbrev pub invariant-loop-method : goal.invariant-loop-method
invariant-loop-method l = l.count ≡ count_by (fills_role l.class l.role) (take l.method-index l.methods)
