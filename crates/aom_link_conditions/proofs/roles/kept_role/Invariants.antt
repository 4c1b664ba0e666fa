use Rattle.std.proofs.Common.{◌≡◌}
use Rattle.aom_link_conditions.specs.Roles.{keeper_of, own_role, role_by}
use Rattle.aom_link_conditions.proofs.roles.kept_role.Given as goal

abbrev pub invariant-loop-found : goal.invariant-loop-found
invariant-loop-found l = record {
  kept : role_by l.fn.image l.role (keeper_of l.fn.image l.fn.class l.role) ≡ role_by l.fn.image l.role (keeper_of l.fn.image l.here l.role);
  found : l.found ≡ own_role l.fn.image l.here l.role;
}

abbrev pub decreases-loop-found : goal.decreases-loop-found
decreases-loop-found l = l.here
