-- What was added and the clients that are left are all that are named.
use Rattle.std.proofs.Common.{◌≡◌, ◌-◌, ◌++◌, map}
use Rattle.std.specs.Prelude.{filter}
use Rattle.aom_fault_injection.specs.Planned.{below, is_named}
use Rattle.aom_fault_injection.specs.declared.injection.KillTarget.TheVariants.{Client}
use Rattle.aom_fault_injection.proofs.plan.add_clients.Given as goal

abbrev pub invariant-loop-client : goal.invariant-loop-client
invariant-loop-client l = l.victims.items ++ map Client (filter (is_named l.script.timed) (below l.client 64)) ≡ l.fn.victims.items ++ map Client
    (filter (is_named l.script.timed) (below 0 64))

abbrev pub decreases-loop-client : goal.decreases-loop-client
decreases-loop-client l = 64 - l.client
