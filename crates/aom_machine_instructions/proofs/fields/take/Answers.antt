use Rattle.aom_machine_instructions.proofs.FieldActs.{take_does}
use Rattle.aom_machine_instructions.proofs.fields.take.Goals as goal

pub returns : goal.returns
returns c = λ refused. rw c.set_and_advance.ensures.brought (take_does c.args.parts.now c.take_field-number.new.self
    refused c.args.to c.args.field c.take_field-number.result c.set_and_advance.ensures.in_range c.take_field-number.ensures.value c.take_field-number.ensures.emptied)
