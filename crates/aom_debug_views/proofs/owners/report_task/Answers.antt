-- A frame's registers are told by its strongest abstract state, and what is no frame has none.
use Rattle.std.proofs.lemmas.Result.{IfErr-weaker, IfOk-weaker}
use Rattle.aom_debug_views.proofs.Registers.{frame_method, frame_shown, is_reached}
use Rattle.aom_debug_views.proofs.Tasks.{frame_stands, no_registers}
use Rattle.aom_debug_views.proofs.Trees.{none_hang}
use Rattle.aom_debug_views.proofs.owners.report_task.Goals as goal

pub returns-in_default-clause-ok : goal.returns-in_default-clause-ok
returns-in_default-clause-ok g c =
    let p = c.args.checked.now in
    let m = c.args.parts.now in
    none_hang p m c.args.names.now c.args.depth c.args.frames _ (no_registers p m c.args.depth c.in_default.ensures)

pub shape-requires : goal.shape-requires
shape-requires g c =
    let p = c.args.checked.now in
    let m = c.args.parts.now in
    frame_method p m c.requires.agrees c.requires.stands c.args.depth c.in-Some.frame (frame_stands p m c.args.depth c.in-Some.frame c.in-Some.ensures)

pub returns-in-Some-shape-clause-ok : goal.returns-in-Some-shape-clause-ok
returns-in-Some-shape-clause-ok g c = IfOk-weaker c.report_frame.result _ _ (λ _ reported. reported c.args.checked.now c.args.depth
    (frame_shown c.args.checked.now c.args.parts.now c.requires.agrees c.args.depth c.in-Some.frame c.in-Some-shape.shape
    (frame_stands c.args.checked.now c.args.parts.now c.args.depth c.in-Some.frame c.in-Some.ensures) c.in-Some-shape.ensures)) c.report_frame.ensures.ok

pub returns-in-Some-shape-clause-err : goal.returns-in-Some-shape-clause-err
returns-in-Some-shape-clause-err g c = IfErr-weaker c.report_frame.result _ _ (λ fault cut. cut c.args.checked.now c.args.depth
    (frame_shown c.args.checked.now c.args.parts.now c.requires.agrees c.args.depth c.in-Some.frame c.in-Some-shape.shape
    (frame_stands c.args.checked.now c.args.parts.now c.args.depth c.in-Some.frame c.in-Some.ensures) c.in-Some-shape.ensures)) c.report_frame.ensures.err

pub returns-in-None-clause-ok : goal.returns-in-None-clause-ok
returns-in-None-clause-ok g c =
    let p = c.args.checked.now in
    let m = c.args.parts.now in
    let f = c.in-Some.frame in
    record { out = λ s st. absurd (is_reached p m c.requires.agrees s st c.args.depth f (frame_stands p m c.args.depth f c.in-Some.ensures) c.in-None.ensures) }
