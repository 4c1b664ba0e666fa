-- What was added and the pairs of the requests that are left are all of them; there is room for what was added.
use Rattle.std.proofs.Common.{◌≡◌, ◌≤◌, ◌+◌, ◌-◌, ◌++◌, length}
use Rattle.std.specs.List.{flat_map}
use Rattle.aom_fault_injection.specs.Planned.{below, pairs_of, pairs_with}
use Rattle.aom_fault_injection.proofs.plan.add_pairs.Given as goal

abbrev pub invariant-loop-number : goal.invariant-loop-number
invariant-loop-number l = record {
  far : l.pairs.items ++ flat_map (pairs_with l.last) (below l.number (l.end + 1)) ≡ pairs_of l.fn.part l.fn.requests;
  few : length l.pairs.items ≤ l.most;
}

abbrev pub decreases-loop-number : goal.decreases-loop-number
decreases-loop-number l = l.end + 1 - l.number
