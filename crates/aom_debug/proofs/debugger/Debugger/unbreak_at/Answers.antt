-- A place that the numbers name has no breakpoint then, and where they name none nothing changes.
use Rattle.std.proofs.lemmas.Result.{err_from_is_err_and}
use Rattle.aom_debug_protocol.specs.Marks.{has_spot, without_spot}
use Rattle.aom_debug.proofs.DebugSteppingLemmas.{keeps_all}
use Rattle.aom_debug.proofs.Declining.{marked_runner, marked_named, marks_none}
use Rattle.aom_debug.proofs.debugger.Debugger.unbreak_at.Goals as goal

pub returns-in_err-spot-clause-agree : goal.returns-in_err-spot-clause-agree
returns-in_err-spot-clause-agree g c = c.requires.agree

pub returns-in_err-spot-clause-keeps : goal.returns-in_err-spot-clause-keeps
returns-in_err-spot-clause-keeps g c = keeps_all c.args.self.now.runner c.requires.ready

pub returns-in_err-spot-clause-answer : goal.returns-in_err-spot-clause-answer
returns-in_err-spot-clause-answer g c =
    let e = err_from_is_err_and c.from_residual.result c.from_residual.ensures.1 in
    rw (e.1, e.2) (marks_none c.args.self.now _ _ c.args.method c.args.place has_spot without_spot _ c.in_err-spot.ensures.err)

pub returns-clause-agree : goal.returns-clause-agree
returns-clause-agree g c =
    rw (marked_runner has_spot without_spot c.in_ok-spot.spot c.args.self.now c.clear_breakpoint.new.self _ c.clear_breakpoint.result c.clear_breakpoint.ensures) c.requires.agree

pub returns-clause-keeps : goal.returns-clause-keeps
returns-clause-keeps g c = rw (marked_runner has_spot without_spot c.in_ok-spot.spot c.args.self.now c.clear_breakpoint.new.self _ c.clear_breakpoint.result c.clear_breakpoint.ensures)
    (keeps_all c.args.self.now.runner c.requires.ready)

pub returns-clause-answer : goal.returns-clause-answer
returns-clause-answer g c =
    let named = c.in_ok-spot.ensures.ok in
    marked_named has_spot without_spot c.in_ok-spot.spot c.args.self.now c.clear_breakpoint.new.self _ c.args.method c.args.place named.0 named.1
    c.clear_breakpoint.result c.clear_breakpoint.ensures
