-- One task after another, from the outermost.
use Rattle.std.proofs.Common.{ℕ, Bool, List, arith, length}
use Rattle.std.proofs.lemmas.Result.{err_from_is_err_and}
use Rattle.aom_semantics.specs.Owned.{over}
use Rattle.aom_semantics.specs.State.{State}
use Rattle.aom_machine_state.specs.Stands.{MachineModel}
use Rattle.aom_debug_views.specs.Owners.{Owned, frame_registers, is_frame, owned_line}
use Rattle.aom_debug_views.proofs.Counting.{counted_next}
use Rattle.aom_debug_views.proofs.Hanging.{hangs, hangs_cut, hangs_more}
use Rattle.aom_debug_views.proofs.Tasks.{as_many_tasks}
use Rattle.aom_debug_views.proofs.Reporting.{reports_all}
use Rattle.aom_debug_views.proofs.owners.report_registers.Goals as goal

abbrev such : State → ℕ → Bool
such s k = is_frame (over s.tasks k)

abbrev hangs_of : State → (number depth : ℕ) → List Owned
hangs_of s j k = frame_registers s.cells k j 16

pub returns-in_err-report_task-clause-err : goal.returns-in_err-report_task-clause-err
returns-in_err-report_task-clause-err g c =
    let error = err_from_is_err_and c.from_residual.result c.from_residual.ensures.1 in
    let m : MachineModel = record { image = c.args.checked.now; parts = c.args.parts.now } in
    let k = c.loop-depth.depth in
    let i = c.loop-depth.invariant in
    let within = c.loop-depth-test.true in
    let count = c.len-depth-end.ensures in
    rw (error.1, error.2) (hangs_cut such hangs_of c.args.names.now m _ k i.count _ _ _ i.out (λ s. length s.tasks)
    (λ s st. let many = as_many_tasks m.image m.parts s st in omega (arith, within, count, many)) _ _ c.in_err-report_task.ensures.err)

pub loop-depth-preserved : goal.loop-depth-preserved
loop-depth-preserved g c =
    let m : MachineModel = record { image = c.args.checked.now; parts = c.args.parts.now } in
    let k = c.loop-depth.depth in
    let i = c.loop-depth.invariant in
    let few = i.few in
    let one = c.frames_at-frames.ensures.few in
    record {
      few = omega (arith, few, one);
      count = λ s st. counted_next (such s) k _ _ (i.count s st) (c.frames_at-frames.ensures.value m.image s st);
      out = hangs_more such hangs_of c.args.names.now m _ k i.count _ _ _ i.out c.in_ok-report_task.ensures.ok;
    }

pub returns-clause-ok : goal.returns-clause-ok
returns-clause-ok g c =
    let m : MachineModel = record { image = c.args.checked.now; parts = c.args.parts.now } in
    let count = c.len-depth-end.ensures in
    let most = c.loop-depth.auto.depth-end in
    let least = c.loop-depth-test.false in
    reports_all (owned_line c.args.names.now) m (hangs such hangs_of) (λ s. length s.tasks) c.loop-depth.depth _ _ c.loop-depth.invariant.out
    (λ s st. let many = as_many_tasks m.image m.parts s st in omega (arith, count, most, least, many))
