-- One more client is there, where the script names it.
use Rattle.std.proofs.Common.{List, map, ◌++◌, ◌+◌, ◌∙◌, ap, sym}
use Rattle.std.specs.Prelude.{filter}
use Rattle.aom_fault_injection.specs.Planned.{below, is_named}
use Rattle.aom_fault_injection.specs.declared.injection.KillTarget.{KillTarget}
use Rattle.aom_fault_injection.specs.declared.injection.KillTarget.TheVariants.{Client}
use Rattle.aom_fault_injection.proofs.Numbers.{passed_on, taken_on}
use Rattle.aom_fault_injection.proofs.plan.add_clients.Goals.{then-is_named+in_ok-push, else-is_named}
use Rattle.aom_fault_injection.proofs.plan.add_clients.Goals as goal

pub loop-client-preserved : goal.loop-client-preserved
loop-client-preserved c =
    let p = is_named c.args.script.now.timed in
    let n = c.loop-client.client in
    let done = c.loop-client.victims.items in
    elim c.if-is_named.branch [
      | then-is_named+in_ok-push w ↦
          rw w.victims-is
          (ap (λ (xs : List KillTarget). xs ++ map Client (filter p (below (n + 1) 64))) w.in_ok-push.ensures.items
          ∙ taken_on Client done _ n 64 p c.loop-client-test.true (sym c.is_named.ensures ∙ w.if-is_named.true) c.loop-client.invariant)
      | else-is_named w ↦ rw w.victims-is
          (passed_on Client done _ n 64 p c.loop-client-test.true (sym c.is_named.ensures ∙ w.if-is_named.false) c.loop-client.invariant)
    ]
