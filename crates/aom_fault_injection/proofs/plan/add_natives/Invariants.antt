-- What was added and the natives that are left are all of them.
use Rattle.std.proofs.Common.{◌≡◌, ◌-◌, ◌++◌, map}
use Rattle.aom_fault_injection.specs.Planned.{below}
use Rattle.aom_fault_injection.specs.declared.injection.KillTarget.TheVariants.{Native}
use Rattle.aom_fault_injection.proofs.plan.add_natives.Given as goal

abbrev pub invariant-loop-native : goal.invariant-loop-native
invariant-loop-native l = l.victims.items ++ map Native (below l.native l.count) ≡ l.fn.victims.items ++ map Native (below 0 l.count)

abbrev pub decreases-loop-native : goal.decreases-loop-native
decreases-loop-native l = l.count - l.native
