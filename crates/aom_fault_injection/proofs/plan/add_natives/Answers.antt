-- One more native is there.
use Rattle.std.proofs.Common.{List, map, ◌++◌, ◌+◌, ◌∙◌, ap, arith}
use Rattle.aom_fault_injection.specs.Planned.{below}
use Rattle.aom_fault_injection.specs.declared.injection.KillTarget.{KillTarget}
use Rattle.aom_fault_injection.specs.declared.injection.KillTarget.TheVariants.{Native}
use Rattle.aom_fault_injection.proofs.Numbers.{push_on}
use Rattle.aom_fault_injection.proofs.plan.add_natives.Goals as goal

pub loop-native-preserved : goal.loop-native-preserved
loop-native-preserved c =
    let n = c.loop-native.native in
    let end = c.min-count.result in
    ap (λ (xs : List KillTarget). xs ++ map Native (below (n + 1) end)) c.in_ok-push.ensures.items
    ∙ push_on Native c.loop-native.victims.items _ n end (omega (arith, c.loop-native-test.true)) c.loop-native.invariant
