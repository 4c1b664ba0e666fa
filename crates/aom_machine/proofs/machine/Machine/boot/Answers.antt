use Rattle.std.proofs.Common.{refl, subst}
use Rattle.aom_semantics.specs.World.{boot_state}
use Rattle.aom_machine_state.specs.Boot.{Booted}
use Rattle.aom_machine.proofs.Agreeing.{agrees_in_all}
use Rattle.aom_machine.proofs.Booting.{boots}
use Rattle.aom_machine.proofs.machine.Machine.boot.Goals as goal

pub invariant_of-result : goal.invariant_of-result
invariant_of-result c =
    let booted = subst (λ p. Booted p c.in_ok-parts.parts) c.linked-linked.ensures c.in_ok-parts.ensures in (
      boot_state c.args.accepted.now,
      boots c.args.accepted.now c.in_ok-parts.parts c.facts.ensures.linked c.facts.ensures.affordable c.facts.ensures.depths c.facts.ensures.heights
          c.boot_keeps.ensures c.step_keeps.ensures c.quiet_preserved.ensures c.linked_is_wired.ensures c.boot_within.ensures c.moves_pay.ensures booted,
    )

pub returns-clause-stands : goal.returns-clause-stands
returns-clause-stands c =
    let booted = subst (λ p. Booted p c.in_ok-parts.parts) c.linked-linked.ensures c.in_ok-parts.ensures in
    boots c.args.accepted.now c.in_ok-parts.parts c.facts.ensures.linked c.facts.ensures.affordable c.facts.ensures.depths c.facts.ensures.heights
    c.boot_keeps.ensures c.step_keeps.ensures c.quiet_preserved.ensures c.linked_is_wired.ensures c.boot_within.ensures c.moves_pay.ensures booted

pub returns-clause-agrees : goal.returns-clause-agrees
returns-clause-agrees c = agrees_in_all _

pub returns-clause-image : goal.returns-clause-image
returns-clause-image c = refl
