use Rattle.std.proofs.Common.{true, false, refl, sym, ◌∙◌}
use Rattle.aom_typing_rules.specs.Ways.{Pushed}
use Rattle.aom_machine_instructions.proofs.EntryActs.{push_does}
use Rattle.aom_machine_instructions.proofs.Rooms.{entries_room}
use Rattle.aom_machine_instructions.proofs.Resulting.{on_top_runs}
use Rattle.aom_machine_instructions.proofs.cleanup.push.Goals as goal

pub push_object-requires : goal.push_object-requires
push_object-requires c =
    rw (c.set_and_advance.ensures.brought, c.request-refused.ensures.counted)
    (entries_room c.requires.0 c.args.parts.now _ (Pushed c.args.from) c.requires.1 refl (λ k pc sh needs. needs.1.0) (λ k pc sh. refl))

pub returns-then-refused-clause-does : goal.returns-then-refused-clause-does
returns-then-refused-clause-does c =
    let does = push_does c.args.parts.now c.args.lines.now c.args.from true c.set_and_advance.ensures.in_range
    (sym c.if-refused.true ∙ c.request-refused.ensures.refused) in
    rw (c.leave.ensures, c.push_object.ensures, c.set_and_advance.ensures.brought, c.register-object.ensures.value, c.request-refused.ensures.counted) does

pub returns-clause-does : goal.returns-clause-does
returns-clause-does c =
    let does = push_does c.args.parts.now c.args.lines.now c.args.from false c.set_and_advance.ensures.in_range
    (sym c.if-refused.false ∙ c.request-refused.ensures.refused) in
    rw (c.push_object.ensures, c.set_and_advance.ensures.brought, c.register-object.ensures.value, c.request-refused.ensures.counted) does

pub returns-clause-runs : goal.returns-clause-runs
returns-clause-runs c = λ still. rw (c.set_and_advance.ensures.brought, c.request-refused.ensures.counted) (on_top_runs _ _ (on_top_runs _ _ c.requires.1.runs))
