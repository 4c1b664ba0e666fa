-- Where it stands, its registers, its loops and its trap, one after the other.
use Rattle.std.proofs.Common.{◌++◌, ℕ, List}
use Rattle.std.proofs.lemmas.Result.{IfErr-weaker, IfOk-weaker, err_from_is_err_and}
use Rattle.aom_abstract_state.specs.Kinds.{register}
use Rattle.aom_abstract_state.specs.AbstractState.{AbstractState}
use Rattle.aom_semantics.specs.Owned.{over}
use Rattle.aom_semantics.specs.State.{State}
use Rattle.aom_machine_state.specs.Stands.{MachineModel}
use Rattle.aom_debug_protocol.specs.declared.answer.Answer.{Answer}
use Rattle.aom_debug_views.specs.Frames.{loops_in, place_in, registers_in, trap_in}
use Rattle.aom_debug_views.specs.Reporting.{listed}
use Rattle.aom_debug_views.proofs.Reporting.{cut_first, cut_later, of_answer, reports_both}
use Rattle.aom_debug_views.proofs.frames.report_lines.Goals as goal

-- the four parts, and what comes after each
abbrev head : ℕ → State → List Answer
head depth s = listed (place_in (over s.tasks depth))

abbrev contents : AbstractState → ℕ → State → List Answer
contents sh depth s = registers_in (λ i. register sh i) s.cells depth (over s.tasks depth) 16

abbrev loops : ℕ → State → List Answer
loops depth s = loops_in (over s.tasks depth) 4

abbrev trap : ℕ → State → List Answer
trap depth s = listed (trap_in s.tasks depth (over s.tasks depth))

abbrev last_two : ℕ → State → List Answer
last_two depth s = loops depth s ++ trap depth s

abbrev last_three : AbstractState → ℕ → State → List Answer
last_three sh depth s = contents sh depth s ++ last_two depth s

pub returns-in_err-report_head-clause-err : goal.returns-in_err-report_head-clause-err
returns-in_err-report_head-clause-err g c =
    let error = err_from_is_err_and c.from_residual.result c.from_residual.ensures.1 in
    let sh = c.args.shape.now in
    let k = c.args.depth in
    rw (error.1, error.2) (λ p shown. let m : MachineModel = record { image = p; parts = c.args.parts.now } in
    cut_first (of_answer c.args.names.now) m (head k) (last_three sh k) _ _ _ _ (c.in_err-report_head.ensures.err m sh k shown))

pub returns-in_err-report_contents-clause-err : goal.returns-in_err-report_contents-clause-err
returns-in_err-report_contents-clause-err g c =
    let error = err_from_is_err_and c.from_residual-in_err-report_contents.result c.from_residual-in_err-report_contents.ensures.1 in
    let sh = c.args.shape.now in
    let k = c.args.depth in
    rw (error.1, error.2) (λ p shown.
    let m : MachineModel = record { image = p; parts = c.args.parts.now } in
    cut_later (of_answer c.args.names.now) m (head k) (last_three sh k) _ _ _ _ _ (c.in_ok-report_head.ensures.ok m sh k shown)
    (cut_first (of_answer c.args.names.now) m (contents sh k) (last_two k) _ _ _ _ (c.in_err-report_contents.ensures.err p k shown)))

pub returns-in_err-report_loops-clause-err : goal.returns-in_err-report_loops-clause-err
returns-in_err-report_loops-clause-err g c =
    let error = err_from_is_err_and c.from_residual-in_err-report_loops.result c.from_residual-in_err-report_loops.ensures.1 in
    let sh = c.args.shape.now in
    let k = c.args.depth in
    rw (error.1, error.2) (λ p shown.
    let m : MachineModel = record { image = p; parts = c.args.parts.now } in
    cut_later (of_answer c.args.names.now) m (head k) (last_three sh k) _ _ _ _ _ (c.in_ok-report_head.ensures.ok m sh k shown)
    (cut_later (of_answer c.args.names.now) m (contents sh k) (last_two k) _ _ _ _ _ (c.in_ok-report_contents.ensures.ok p k shown)
    (cut_first (of_answer c.args.names.now) m (loops k) (trap k) _ _ _ _ (c.in_err-report_loops.ensures.err m sh k shown))))

pub returns-clause-ok : goal.returns-clause-ok
returns-clause-ok g c =
    let sh = c.args.shape.now in
    let k = c.args.depth in
    IfOk-weaker c.report_trap.result _ _ (λ _ reported p shown.
    let m : MachineModel = record { image = p; parts = c.args.parts.now } in
    reports_both (of_answer c.args.names.now) m (head k) (last_three sh k) _ _ _ (c.in_ok-report_head.ensures.ok m sh k shown)
    (reports_both (of_answer c.args.names.now) m (contents sh k) (last_two k) _ _ _ (c.in_ok-report_contents.ensures.ok p k shown) (reports_both (of_answer
    c.args.names.now) m (loops k) (trap k) _ _ _ (c.in_ok-report_loops.ensures.ok m sh k shown) (reported p sh c.args.frame.now shown)))) c.report_trap.ensures.ok

pub returns-clause-err : goal.returns-clause-err
returns-clause-err g c =
    let sh = c.args.shape.now in
    let k = c.args.depth in
    IfErr-weaker c.report_trap.result _ _ (λ fault cut p shown.
    let m : MachineModel = record { image = p; parts = c.args.parts.now } in
    cut_later (of_answer c.args.names.now) m (head k) (last_three sh k) _ _ _ _ _ (c.in_ok-report_head.ensures.ok m sh k shown)
    (cut_later (of_answer c.args.names.now) m (contents sh k) (last_two k) _ _ _ _ _ (c.in_ok-report_contents.ensures.ok p k shown)
    (cut_later (of_answer c.args.names.now) m (loops k) (trap k) _ _ _ _ _ (c.in_ok-report_loops.ensures.ok m sh k shown) (cut p sh c.args.frame.now shown))))
    c.report_trap.ensures.err
