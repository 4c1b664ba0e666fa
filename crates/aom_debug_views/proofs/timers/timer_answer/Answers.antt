-- A timer is told by the object that it is of.
use Rattle.std.proofs.Common.{◌∙◌, ap}
use Rattle.aom_cells.specs.Heap.{class_at}
use Rattle.aom_debug_views.proofs.DueTimes.{classless_reported, timer_reported}
use Rattle.aom_debug_views.proofs.timers.timer_answer.Goals as goal

pub returns-in_err-class-clause-reported : goal.returns-in_err-class-clause-reported
returns-in_err-class-clause-reported c = λ p s st _.
    let m = c.args.parts.now in
    rw c.from_residual.ensures (classless_reported p m s st c.args.timer.id (c.in_err-class.ensures ∙ ap (class_at m.cells) c.number.ensures.value))

pub returns-clause-reported : goal.returns-clause-reported
returns-clause-reported c = λ p s st is.
    let m = c.args.parts.now in
    timer_reported p m s st c.args.timer.id c.in_ok-class.class c.args.timer.due (c.in_ok-class.ensures ∙ ap (class_at m.cells) c.number.ensures.value) is
