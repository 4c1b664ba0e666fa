use Rattle.aom_machine_instructions.proofs.FieldActs.{put_does}
use Rattle.aom_machine_instructions.proofs.fields.put.Goals as goal

pub returns : goal.returns
returns c = λ refused. rw c.set_and_advance.ensures.brought (put_does c.args.parts.now c.set_field.new.self
    refused c.args.field c.args.from c.register-number.result c.register-number.ensures.in_range c.register-number.ensures.value c.set_field.ensures.written)
