use Rattle.std.proofs.Common.{true, false, refl, sym, ◌∙◌}
use Rattle.aom_typing_rules.specs.Ways.{Pushed_operation}
use Rattle.aom_machine_instructions.proofs.EntryActs.{push_operation_does}
use Rattle.aom_machine_instructions.proofs.Rooms.{entries_room}
use Rattle.aom_machine_instructions.proofs.cleanup.push_operation.Goals as goal

pub push_operation-requires : goal.push_operation-requires
push_operation-requires c = rw c.request-refused.ensures.counted
    (entries_room c.requires.0 c.args.parts.now _ Pushed_operation c.requires.1 refl (λ k pc sh needs. needs.1.0) (λ k pc sh. refl))

pub returns-then-refused : goal.returns-then-refused
returns-then-refused c =
    let does = push_operation_does c.args.parts.now c.args.lines.now c.args.from c.args.method true (sym c.if-refused.true ∙ c.request-refused.ensures.refused) in
    rw (c.leave.ensures, c.next.ensures, c.push_operation.ensures, c.register-word.ensures.value, c.request-refused.ensures.counted) does

pub returns-else-refused : goal.returns-else-refused
returns-else-refused c =
    let does = push_operation_does c.args.parts.now c.args.lines.now c.args.from c.args.method false (sym c.if-refused.false ∙ c.request-refused.ensures.refused) in
    rw (c.next.ensures, c.push_operation.ensures, c.register-word.ensures.value, c.request-refused.ensures.counted) does
