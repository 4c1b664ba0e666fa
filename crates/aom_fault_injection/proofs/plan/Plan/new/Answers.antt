-- Each part was added, and each of what is planned can be injected.
use Rattle.std.proofs.Common.{◌≡◌, List, arith, subst, sym}
use Rattle.std.specs.List.{All}
use Rattle.std.proofs.lemmas.Grind.{common_steps}
use Rattle.aom_fault_injection.specs.Injections.{CanInject}
use Rattle.aom_fault_injection.specs.Planned.{planned}
use Rattle.aom_fault_injection.specs.declared.injection.Injection.{Injection}
use Rattle.aom_fault_injection.proofs.Planning.{planned_can}
use Rattle.aom_fault_injection.proofs.plan.Plan.new.Goals as goal

pub returns-clause-can : goal.returns-clause-can
returns-clause-can c =
    let tries = c.args.tries in
    let all = planned tries c.args.natives c.args.script.now.timed c.args.requests c.args.times.now in
    let same : c.match-tries.injections.items ≡ all = grind (arith, common_steps) in
    subst (λ (xs : List Injection). All CanInject xs) (sym same)
    (planned_can tries c.args.natives c.args.script.now.timed c.args.requests c.args.times.now c.requires)
