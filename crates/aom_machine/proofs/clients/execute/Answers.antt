-- A client does what it is told.
use Rattle.std.proofs.Common.{arith, rules, sym, to_z, of_z, w32, FitsSigned, ◌∙◌}
use Rattle.std.proofs.lemmas.Int.{to_z-of_z}
use Rattle.aom_machine.proofs.Commands.{can_act}
use Rattle.aom_machine.proofs.Observed.{observed, observes_timers, sized_acts, small_queue, reported_none, reported_one}
use Rattle.aom_machine.proofs.Progressing.{between, is_as_far}
use Rattle.aom_machine.proofs.clients.execute.Goals as goal

pub act-answer-requires-clause-can : goal.act-answer-requires-clause-can
act-answer-requires-clause-can c =
    let p = c.args.linked.now in
    let m = c.args.parts.now in
    let s = c.requires.stands.0 in
    let st = c.requires.stands.1 in
    let b = between s (sym (is_as_far (record { image = p; parts = m }) s st) ∙ c.requires.between) in
    can_act p m s st b.idle c.args.client c.requires.client c.args.command c.requires.ranged

-- there are as many queues after an act as before it
pub note_changed-requires : goal.note_changed-requires
note_changed-requires c =
    let m = c.args.parts.now in
    let sized = c.requires.stands.1.agrees.services.sized in
    let many = sized.queues in
    let few = c.requires.stands.1.sound.formed.header.cells in
    small_queue c.queue_of-queue.result _ _ c.queue_of-queue.ensures.below (omega (arith, many, few))
    (sized_acts c.args.linked.now.header.cells m.clients c.act-answer.new.clients
    sized c.args.client c.args.command c.asked_by-asked.result m.messages c.act-answer.new.messages c.act-answer.result c.act-answer.ensures)

pub returns-in-Ok-clause-executed : goal.returns-in-Ok-clause-executed
returns-in-Ok-clause-executed c =
    let reported = c.args.lines.now in
    let lines = reported_none c.args.client reported c.act-answer.result _ c.in-Ok.is in
    rw (c.deliver.ensures, c.note_changed.ensures.rest) (observed c.args.linked.now c.args.parts.now c.requires.between c.args.client c.requires.client
    c.args.command c.asked_by-asked.result c.asked_by-asked.ensures.value c.queue_of-queue.result c.queue_of-queue.ensures.value c.act-answer.new.clients
    c.act-answer.new.messages c.note_changed.new.parts.active reported reported c.act-answer.result lines c.act-answer.ensures c.note_changed.ensures.noted)

pub returns-in-Ok-clause-timers : goal.returns-in-Ok-clause-timers
returns-in-Ok-clause-timers c = observes_timers c.args.linked.now
    c.args.parts.now c.requires.stands c.queue_of-queue.result c.act-answer.new.clients c.note_changed.new.parts.active c.note_changed.ensures.noted

pub returns-in-Err-clause-executed : goal.returns-in-Err-clause-executed
returns-in-Err-clause-executed c =
    let reported = c.args.lines.now in
    let now = c.push.new.self in
    let fits : FitsSigned w32 c.code.result = search rules in
    let lines = reported_one c.args.client reported now c.act-answer.result c.in-Err.refusal
    (to_z w32 (of_z w32 c.code.result)) c.in-Err.is (to_z-of_z w32 c.code.result fits ∙ c.code.ensures) c.push.ensures in
    rw (c.deliver.ensures, c.note_changed.ensures.rest) (observed c.args.linked.now c.args.parts.now c.requires.between c.args.client c.requires.client
    c.args.command c.asked_by-asked.result c.asked_by-asked.ensures.value c.queue_of-queue.result c.queue_of-queue.ensures.value c.act-answer.new.clients
    c.act-answer.new.messages c.note_changed.new.parts.active reported now c.act-answer.result lines c.act-answer.ensures c.note_changed.ensures.noted)

pub returns-in-Err-clause-timers : goal.returns-in-Err-clause-timers
returns-in-Err-clause-timers c = observes_timers c.args.linked.now
    c.args.parts.now c.requires.stands c.queue_of-queue.result c.act-answer.new.clients c.note_changed.new.parts.active c.note_changed.ensures.noted
