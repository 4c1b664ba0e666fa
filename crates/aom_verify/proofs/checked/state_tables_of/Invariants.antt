-- The methods so far have their strongest states, and there is room for those of the others.
use Rattle.std.proofs.Common.{◌≤◌, vec_capacity}
use Rattle.aom_verify.proofs.StaticBoundsLemmas.{AreFirst}
use Rattle.aom_verify.proofs.checked.state_tables_of.Given as goal

abbrev pub invariant-loop-index : goal.invariant-loop-index
invariant-loop-index l = record {
  first : AreFirst l.linked l.state_tables.items l.index;
  room : l.index-end ≤ vec_capacity l.state_tables;
}
