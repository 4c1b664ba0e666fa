-- One more number is refused.
use Rattle.std.proofs.Common.{List, map, ◌++◌, ◌+◌, ◌∙◌, ap, arith}
use Rattle.aom_fault_injection.specs.Planned.{below}
use Rattle.aom_fault_injection.specs.declared.injection.Injection.{Injection}
use Rattle.aom_fault_injection.specs.declared.injection.Injection.TheVariants.{Refusal}
use Rattle.aom_fault_injection.proofs.Numbers.{push_on}
use Rattle.aom_fault_injection.proofs.plan.add_refusals.Goals as goal

pub loop-number-preserved : goal.loop-number-preserved
loop-number-preserved c =
    let n = c.loop-number.number in
    let end = c.min-last.result + 1 in
    ap (λ (xs : List Injection). xs ++ map Refusal (below (n + 1) end)) c.in_ok-push.ensures.items
    ∙ push_on Refusal c.loop-number.injections.items _ n end (omega (arith, c.loop-number-test.true)) c.loop-number.invariant
