-- A place that the numbers name is set, and where they name none nothing is.
use Rattle.std.proofs.lemmas.Result.{err_from_is_err_and}
use Rattle.aom_debug_protocol.specs.Marks.{is_set}
use Rattle.aom_debug.specs.Commands.{with_condition}
use Rattle.aom_debug.proofs.DebugSteppingLemmas.{keeps_all}
use Rattle.aom_debug.proofs.Declining.{marked_runner, marked_named, marks_none}
use Rattle.aom_debug.proofs.debugger.Debugger.break_at.Goals as goal

pub returns-in_err-spot-clause-agree : goal.returns-in_err-spot-clause-agree
returns-in_err-spot-clause-agree g c = c.requires.agree

pub returns-in_err-spot-clause-keeps : goal.returns-in_err-spot-clause-keeps
returns-in_err-spot-clause-keeps g c = keeps_all c.args.self.now.runner c.requires.ready

pub returns-in_err-spot-clause-answer : goal.returns-in_err-spot-clause-answer
returns-in_err-spot-clause-answer g c =
    let e = err_from_is_err_and c.from_residual.result c.from_residual.ensures.1 in
    rw (e.1, e.2) (marks_none c.args.self.now _ _ c.args.method c.args.place is_set (with_condition c.args.condition) _ c.in_err-spot.ensures.err)

pub returns-clause-agree : goal.returns-clause-agree
returns-clause-agree g c =
    rw (marked_runner is_set (with_condition c.args.condition) c.in_ok-spot.spot c.args.self.now c.set.new.self _ c.set.result c.set.ensures) c.requires.agree

pub returns-clause-keeps : goal.returns-clause-keeps
returns-clause-keeps g c = rw (marked_runner is_set (with_condition c.args.condition) c.in_ok-spot.spot c.args.self.now c.set.new.self _ c.set.result c.set.ensures)
    (keeps_all c.args.self.now.runner c.requires.ready)

pub returns-clause-answer : goal.returns-clause-answer
returns-clause-answer g c =
    let named = c.in_ok-spot.ensures.ok in
    marked_named is_set (with_condition c.args.condition) c.in_ok-spot.spot c.args.self.now c.set.new.self _ c.args.method c.args.place named.0 named.1
    c.set.result c.set.ensures
