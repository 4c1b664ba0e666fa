-- What was added and the pairs that are left are all of them; there is room for what was added.
use Rattle.std.proofs.Common.{◌≡◌, ◌≤◌, ◌+◌, ◌-◌, ◌++◌, length, map}
use Rattle.aom_fault_injection.specs.Planned.{below, pairs_with}
use Rattle.aom_fault_injection.specs.declared.injection.Injection.TheVariants.{Pair}
use Rattle.aom_fault_injection.proofs.plan.add_pairs_with.Given as goal

abbrev pub invariant-loop-other : goal.invariant-loop-other
invariant-loop-other l = record {
  far : l.pairs.items ++ map (Pair l.number) (below l.other (l.last + 1)) ≡ l.fn.pairs.items ++ pairs_with l.last l.number;
  few : length l.pairs.items ≤ l.most;
}

abbrev pub decreases-loop-other : goal.decreases-loop-other
decreases-loop-other l = l.last + 1 - l.other
