use Rattle.std.proofs.Common.{◌≡◌, ◌≤◌, ◌-◌}
use Rattle.aom_run.specs.Calls.{RefinesWithNatives, natives_of}
use Rattle.aom_semantics.specs.State.{State}
use Rattle.aom_semantics.specs.World.{first_living}
use Rattle.aom_run.proofs.machine.HostedMachine.next_native.Given as goal

-- none that lives was passed by
abbrev pub invariant-loop-native : goal.invariant-loop-native
invariant-loop-native g l = (l.self.core.parts.rest.polled ≤ l.native) × ((s : State) → RefinesWithNatives l.self s →
    first_living s.killed (natives_of l.self - s.rest.polled) s.rest.polled ≡ first_living s.killed (natives_of l.self - l.native) l.native)

abbrev pub decreases-loop-native : goal.decreases-loop-native
decreases-loop-native g l = natives_of l.self - l.native
