use Rattle.aom_machine_instructions.proofs.MoveActs.{move_does}
use Rattle.aom_machine_instructions.proofs.objects.move_to.Goals as goal

pub returns : goal.returns
returns c = λ refused. rw (c.set_and_advance.ensures.brought, c.take_register-object.ensures.emptied, c.take_register-object.ensures.value)
    (move_does c.args.parts.now refused c.args.to c.args.from c.set_and_advance.ensures.in_range c.take_register-object.ensures.in_range)
