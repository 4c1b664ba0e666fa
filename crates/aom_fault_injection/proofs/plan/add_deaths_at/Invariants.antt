-- The deaths of those so far were added.
use Rattle.std.proofs.Common.{◌≡◌, ◌++◌, map, take}
use Rattle.aom_fault_injection.specs.declared.injection.Injection.TheVariants.{Death}
use Rattle.aom_fault_injection.proofs.plan.add_deaths_at.Given as goal

abbrev pub invariant-loop-victim : goal.invariant-loop-victim
invariant-loop-victim l = l.injections.items ≡ l.fn.injections.items ++ map (Death l.time) (take l.victim-index l.victims)
