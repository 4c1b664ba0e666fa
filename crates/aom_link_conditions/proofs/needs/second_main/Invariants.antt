use Rattle.std.proofs.Common.{◌≡◌, ◌≤◌, count_by, take}
use Rattle.aom_link_conditions.specs.Roles.{is_main}
use Rattle.aom_link_conditions.proofs.needs.second_main.Given as goal

abbrev pub invariant-loop-number : goal.invariant-loop-number
invariant-loop-number l = record { count : l.mains ≡ count_by is_main (take l.number l.methods); few : l.mains ≤ 1 }
