-- One object after another is told, in the order of the roster.
use Rattle.std.proofs.Common.{◌∙◌, ℕ, List, ap, arith, length}
use Rattle.std.specs.Prelude.{slice_get}
use Rattle.std.proofs.lemmas.List.{length-map}
use Rattle.std.proofs.lemmas.Result.{err_from_is_err_and}
use Rattle.aom_scheduler.specs.declared.entry.ScheduleEntry.{ScheduleEntry}
use Rattle.aom_image.specs.Image.{Image}
use Rattle.aom_semantics.specs.State.{State}
use Rattle.aom_machine_state.specs.declared.parts.Parts.{Parts}
use Rattle.aom_debug_symbols.specs.NameLists.{NameLists}
use Rattle.aom_debug_views.specs.Actives.{active_at, active_placed}
use Rattle.aom_debug_views.specs.Seeking.{Placed, placed, placed_line}
use Rattle.aom_debug_views.proofs.Enlisted.{actives_cut, actives_reported, names_of}
use Rattle.aom_debug_views.proofs.Reporting.{reports_all, reports_next, reports_part}
use Rattle.aom_debug_views.proofs.actives.report_actives.Goals as goal

abbrev reported : NameLists → Image → Parts → State → ℕ → List Placed
reported ns p m s k = active_placed ns p s (slice_get (names_of m) k)

pub report_any_placed-requires : goal.report_any_placed-requires
report_any_placed-requires g c = c.place_answer-answer.ensures.classed

pub returns-in_err-report_any_placed-clause-err : goal.returns-in_err-report_any_placed-clause-err
returns-in_err-report_any_placed-clause-err g c =
    let error = err_from_is_err_and c.from_residual.result c.from_residual.ensures.1 in
    let ns = c.args.names.now in
    let p = c.args.accepted.now in
    let m = c.args.parts.now in
    let many = length-map m.active.priority_list.entries (λ (e : ScheduleEntry). e.id) in
    rw (error.1, error.2) (actives_cut (record { image = p; parts = m }) c.count-place-end.ensures.all ns _ _ _ _ (reports_part (placed_line ns)
    (record { image = p; parts = m }) (reported ns p m) (λ s. length (names_of m)) _ _ _ _ _ _ _ c.loop-place.invariant
    (λ s st. ap (λ a. placed a c.place_path-path.result) (c.place_answer-answer.ensures.reported p s st)
    ∙ ap (λ t. placed (active_at p s.cells (slice_get (names_of m) c.loop-place.place)) t) (c.place_path-path.ensures s st))
    (λ s st. omega (arith, c.loop-place-test.true, c.count-place-end.ensures.value, many)) c.in_err-report_any_placed.ensures.err))

pub loop-place-preserved : goal.loop-place-preserved
loop-place-preserved g c =
    let ns = c.args.names.now in
    let p = c.args.accepted.now in
    let m = c.args.parts.now in
    reports_next (placed_line ns) (record { image = p; parts = m }) (reported ns p m) c.loop-place.place _ _ _
    (placed c.place_answer-answer.result c.place_path-path.result) c.loop-place.invariant
    (λ s st. ap (λ a. placed a c.place_path-path.result) (c.place_answer-answer.ensures.reported p s st)
    ∙ ap (λ t. placed (active_at p s.cells (slice_get (names_of m) c.loop-place.place)) t) (c.place_path-path.ensures s st)) c.in_ok-report_any_placed.ensures.ok

pub returns-clause-ok : goal.returns-clause-ok
returns-clause-ok g c =
    let ns = c.args.names.now in
    let p = c.args.accepted.now in
    let m = c.args.parts.now in
    let many = length-map m.active.priority_list.entries (λ (e : ScheduleEntry). e.id) in
    actives_reported (record { image = p; parts = m }) c.count-place-end.ensures.all ns _ _
    (reports_all (placed_line ns) (record { image = p; parts = m }) (reported ns p m) (λ s. length (names_of m)) c.loop-place.place _ _
    c.loop-place.invariant (λ s st. omega (arith, c.count-place-end.ensures.value, c.loop-place.auto.place-end, c.loop-place-test.false, many)))
