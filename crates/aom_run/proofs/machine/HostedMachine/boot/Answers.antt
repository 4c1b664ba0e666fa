-- The core is of the accepted image, and there are as many natives as it names.
use Rattle.std.proofs.Common.{rules, length, refl, ◌<◌, ◌≤◌, ◌∙◌, subst, sym}
use Rattle.std.proofs.lemmas.Result.{IfErr-weaker, IfOk-weaker}
use Rattle.aom_semantics.specs.World.{boot_state}
use Rattle.aom_machine_state.specs.Stands.{Refines as CoreStands}
use Rattle.aom_run.proofs.Booted.{memory_is_not_few}
use Rattle.aom_run.proofs.machine.HostedMachine.boot.Goals as goal

pub boot_with_natives-requires-clause-stands : goal.boot_with_natives-requires-clause-stands
boot_with_natives-requires-clause-stands g c = subst (λ p. CoreStands c.in-Ok.core (boot_state p)) (sym c.in-Ok.ensures.image) c.in-Ok.ensures.stands

pub boot_with_natives-requires-clause-enough : goal.boot_with_natives-requires-clause-enough
boot_with_natives-requires-clause-enough g c =
    let enough : c.args.accepted.now.header.natives ≤ length c.args.boxes.items = search rules in
    rw c.in-Ok.ensures.image enough

pub returns-in-Ok-clause-image : goal.returns-in-Ok-clause-image
returns-in-Ok-clause-image g c = IfOk-weaker c.boot_with_natives.result _ _ (λ m same. same ∙ c.in-Ok.ensures.image) c.boot_with_natives.ensures.image

pub returns-in-Ok-clause-stands : goal.returns-in-Ok-clause-stands
returns-in-Ok-clause-stands g c = rw (← c.in-Ok.ensures.image) c.boot_with_natives.ensures.stands

pub returns-in-Ok-clause-few : goal.returns-in-Ok-clause-few
returns-in-Ok-clause-few g c =
    let enough : c.args.accepted.now.header.natives ≤ length c.args.boxes.items = search rules in
    IfErr-weaker c.boot_with_natives.result _ _ (λ e is. memory_is_not_few e.0 _ _ is enough) c.boot_with_natives.ensures.memory

pub returns-then-len-header-clause-few : goal.returns-then-len-header-clause-few
returns-then-len-header-clause-few g c =
    let few : length c.args.boxes.items < c.args.accepted.now.header.natives = search rules in
    (λ _. few, λ _. refl)

pub boot_with_natives-requires-clause-owed : goal.boot_with_natives-requires-clause-owed
boot_with_natives-requires-clause-owed g c = c.requires

pub returns-in-Ok-clause-agree : goal.returns-in-Ok-clause-agree
returns-in-Ok-clause-agree g c = c.boot_with_natives.ensures.agree

pub returns-in-Ok-clause-boxes : goal.returns-in-Ok-clause-boxes
returns-in-Ok-clause-boxes g c = c.boot_with_natives.ensures.boxes

pub returns-in-Ok-clause-back : goal.returns-in-Ok-clause-back
returns-in-Ok-clause-back g c = c.boot_with_natives.ensures.back
