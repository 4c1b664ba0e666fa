use Rattle.std.proofs.Common.{rules, inl, inr, w32, FitsSigned, of_z, to_z, ◌≡◌, Some, subst, sym, ap, ◌∙◌}
use Rattle.std.proofs.lemmas.Int.{to_z-of_z}
use Rattle.aom_frames.specs.declared.dispatch.Dispatch.TheVariants.{Answered, MainLeft, ObjectLeft}
use Rattle.aom_machine_instructions.proofs.Ends.{answered_moves, asks_moves, can_end, left_moves, main_moves, object_left_moves, object_moves, over_moves}
use Rattle.aom_machine_instructions.proofs.OnTop.{ending_of}
use Rattle.aom_machine_instructions.proofs.Rooms.{has_room}
use Rattle.aom_machine_instructions.proofs.StageEnds.{stage_can, stage_moves, stage_room}
use Rattle.aom_machine_instructions.proofs.closing.close.Goals as goal

pub end_dispatch-requires : goal.end_dispatch-requires
end_dispatch-requires c = can_end c.args.linked.now c.args.parts.now c.requires.stands (ending_of _ c.requires.ending)

pub end_object-requires : goal.end_object-requires
end_object-requires c = can_end c.args.linked.now c.args.parts.now c.requires.stands (ending_of _ c.requires.ending)

pub ask-requires : goal.ask-requires
ask-requires c = can_end c.args.linked.now c.args.parts.now c.requires.stands (ending_of _ c.requires.ending)

pub end_answered-requires : goal.end_answered-requires
end_answered-requires c = can_end c.args.linked.now c.args.parts.now c.requires.stands (ending_of _ c.requires.ending)

pub returns-in-Main : goal.returns-in-Main
returns-in-Main c = let reported = c.args.lines.now in
    rw c.end_dispatch.ensures (main_moves c.args.linked.now c.args.parts.now reported c.requires.announced (c.requires.ending ∙ ap (λ d. Some d) c.in-Main.is))

pub returns-in-Root : goal.returns-in-Root
returns-in-Root c = let reported = c.args.lines.now in rw (c.finish.ensures, c.drop_task-in-Root.ensures)
    (over_moves c.args.linked.now c.args.parts.now reported c.requires.announced (c.requires.ending ∙ ap (λ d. Some d) c.in-Root.is))

pub returns-in-MainLeft : goal.returns-in-MainLeft
returns-in-MainLeft c =
    let reported = c.args.lines.now in
    let fits : FitsSigned w32 c.in-MainLeft.code = search rules in
    rw (c.end_left.ensures, c.drop_task.ensures) (left_moves c.args.linked.now c.args.parts.now reported c.requires.announced _
    (c.requires.ending ∙ ap (λ d. Some d) c.in-MainLeft.is ∙ ap (λ w. Some (MainLeft w)) (sym (to_z-of_z w32 c.in-MainLeft.code fits))))

pub returns-in-Object : goal.returns-in-Object
returns-in-Object c =
    let reported = c.args.lines.now in
    let p = c.args.linked.now in
    let m = c.args.parts.now in
    rw c.end_object.ensures (elim c.in-Object.is [
      | inl w ↦ object_moves p m reported c.requires.announced w.0 (c.requires.ending ∙ ap (λ d. Some d) w.1)
      | inr w ↦ asks_moves p m reported c.requires.announced w.0 (c.requires.ending ∙ ap (λ d. Some d) w.1)
    ])

pub returns-in-ObjectLeft : goal.returns-in-ObjectLeft
returns-in-ObjectLeft c =
    let reported = c.args.lines.now in
    let x = c.in-ObjectLeft.subject in
    let code = c.in-ObjectLeft.code in
    let fits : FitsSigned w32 code = search rules in
    let same : to_z w32 (of_z w32 code) ≡ code = to_z-of_z w32 code fits in
    rw c.ask.ensures (object_left_moves c.args.linked.now c.args.parts.now reported c.requires.announced x (to_z w32 (of_z w32 code))
    (subst (FitsSigned w32) (sym same) fits) (c.requires.ending ∙ ap (λ d. Some d) c.in-ObjectLeft.is ∙ ap (λ w. Some (ObjectLeft x w)) (sym same)))

pub returns-in-Answered : goal.returns-in-Answered
returns-in-Answered c =
    let reported = c.args.lines.now in
    let x = c.in-Answered.field-0 in
    let answer = c.in-Answered.answer in
    let fits : FitsSigned w32 answer = search rules in
    let same : to_z w32 (of_z w32 answer) ≡ answer = to_z-of_z w32 answer fits in
    rw c.end_answered.ensures (answered_moves c.args.linked.now c.args.parts.now reported c.requires.announced x
    (to_z w32 (of_z w32 answer)) (c.requires.ending ∙ ap (λ d. Some d) c.in-Answered.is ∙ ap (λ w. Some (Answered x w)) (sym same)))

pub end_stage-requires-clause-can : goal.end_stage-requires-clause-can
end_stage-requires-clause-can c = stage_can c.args.linked.now c.args.parts.now c.requires.stands c.requires.announced c.in-Server.subject c.in-Server.client
    c.in-Server.stage (c.requires.ending ∙ ap (λ d. Some d) c.in-Server.is)

pub redispatch-requires-clause-room : goal.redispatch-requires-clause-room
redispatch-requires-clause-room c = stage_room c.in-Server.client c.in-Server.stage c.args.parts.now
    c.end_stage.new.parts c.args.lines.now c.end_stage.new.lines c.end_stage.ensures (has_room c.args.linked.now c.args.parts.now c.requires.stands)

pub returns-in-Server : goal.returns-in-Server
returns-in-Server c = rw c.redispatch.ensures (stage_moves c.args.linked.now c.args.parts.now c.args.lines.now c.end_stage.new.lines c.requires.announced
    c.in-Server.subject c.in-Server.client c.in-Server.stage c.end_stage.new.parts (c.requires.ending ∙ ap (λ d. Some d) c.in-Server.is) c.end_stage.ensures)
