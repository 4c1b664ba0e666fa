-- What was added and the refusals of the numbers that are left are all of them.
use Rattle.std.proofs.Common.{◌≡◌, ◌+◌, ◌-◌, ◌++◌, map}
use Rattle.aom_fault_injection.specs.Planned.{below, part_of}
use Rattle.aom_fault_injection.specs.declared.injection.Injection.TheVariants.{Refusal}
use Rattle.aom_fault_injection.proofs.plan.add_refusals.Given as goal

abbrev pub invariant-loop-number : goal.invariant-loop-number
invariant-loop-number l = l.injections.items ++ map Refusal (below l.number (l.last + 1)) ≡ l.fn.injections.items ++ map Refusal (part_of l.fn.part l.fn.requests)

abbrev pub decreases-loop-number : goal.decreases-loop-number
decreases-loop-number l = l.last + 1 - l.number
