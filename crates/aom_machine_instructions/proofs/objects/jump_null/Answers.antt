use Rattle.std.proofs.Common.{sym, ◌∙◌}
use Rattle.aom_machine_instructions.proofs.ObjectActs.{jump_null_does, jump_object_does}
use Rattle.aom_machine_instructions.proofs.objects.jump_null.Goals as goal

pub returns-then-register : goal.returns-then-register
returns-then-register c = λ refused. rw (c.set_place.ensures, c.number.ensures.value)
    (jump_null_does c.args.parts.now refused c.args.from c.args.place (sym c.register.ensures.value ∙ c.if-register.true))

pub returns-else-register : goal.returns-else-register
returns-else-register c =
    λ refused. rw c.next.ensures (jump_object_does c.args.parts.now refused c.args.from c.args.place (λ e. c.if-register.false (c.register.ensures.value ∙ e)))
