-- One depth after another, from the outermost.
use Rattle.std.proofs.Common.{arith, length}
use Rattle.std.proofs.lemmas.Result.{err_from_is_err_and}
use Rattle.aom_machine_state.specs.Stands.{MachineModel}
use Rattle.aom_debug_views.specs.Frames.{frame_text}
use Rattle.aom_debug_views.proofs.Tasks.{as_many_tasks}
use Rattle.aom_debug_views.proofs.Texts.{texts_all, texts_next, texts_part}
use Rattle.aom_debug_views.proofs.frames.report_frames.Goals as goal

pub returns-in_err-report_depth-clause-err : goal.returns-in_err-report_depth-clause-err
returns-in_err-report_depth-clause-err g c =
    let error = err_from_is_err_and c.from_residual.result c.from_residual.ensures.1 in
    let m : MachineModel = record { image = c.args.accepted.now; parts = c.args.parts.now } in
    let within = c.loop-depth-test.true in
    let count = c.len-depth-end.ensures in
    rw (error.1, error.2) (λ t strongest. texts_part m (frame_text c.args.names.now t) (λ s. length s.tasks) c.loop-depth.depth _ _ _ _ _
    (c.loop-depth.invariant t strongest) (λ s st. let many = as_many_tasks m.image m.parts s st in omega (arith, within, count, many))
    (c.in_err-report_depth.ensures.err t strongest))

pub loop-depth-preserved : goal.loop-depth-preserved
loop-depth-preserved g c =
    let m : MachineModel = record { image = c.args.accepted.now; parts = c.args.parts.now } in
    λ t strongest. texts_next m (frame_text c.args.names.now t) _ _ _ _ (c.loop-depth.invariant t strongest) (c.in_ok-report_depth.ensures.ok t strongest)

pub returns-clause-ok : goal.returns-clause-ok
returns-clause-ok g c =
    let m : MachineModel = record { image = c.args.accepted.now; parts = c.args.parts.now } in
    let count = c.len-depth-end.ensures in
    let most = c.loop-depth.auto.depth-end in
    let least = c.loop-depth-test.false in
    λ t strongest. texts_all m (frame_text c.args.names.now t) (λ s. length s.tasks) c.loop-depth.depth _ _
    (c.loop-depth.invariant t strongest) (λ s st. let many = as_many_tasks m.image m.parts s st in omega (arith, count, most, least, many))
