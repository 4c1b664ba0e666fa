use Rattle.std.proofs.Common.{sym, ◌∙◌}
use Rattle.aom_machine_instructions.proofs.FieldActs.{jump_empty_does, jump_full_does}
use Rattle.aom_machine_instructions.proofs.fields.jump_empty.Goals as goal

pub returns-then-field : goal.returns-then-field
returns-then-field c = λ refused. rw (c.set_place.ensures, c.number.ensures.value)
    (jump_empty_does c.args.parts.now refused c.args.field c.args.place (sym c.field.ensures ∙ c.if-field.true))

pub returns-else-field : goal.returns-else-field
returns-else-field c = λ refused. rw c.next.ensures (jump_full_does c.args.parts.now refused c.args.field c.args.place (λ e. c.if-field.false (c.field.ensures ∙ e)))
