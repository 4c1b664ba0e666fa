use Rattle.aom_machine_instructions.proofs.MessageActs.{take_message_does}
use Rattle.aom_machine_instructions.proofs.messages.take_message.Goals as goal

pub returns : goal.returns
returns c = λ refused. rw (c.set_and_advance.ensures.brought, c.take_served-message.ensures.number, c.take_served-message.ensures.taken)
    (take_message_does c.args.parts.now refused c.args.to c.set_and_advance.ensures.in_range)
