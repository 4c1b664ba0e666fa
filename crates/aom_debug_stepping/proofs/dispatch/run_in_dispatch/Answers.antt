-- Turns up to a dispatch, and so far in it.
use Rattle.std.proofs.Common.{◌∙◌, sym}
use Rattle.aom_debug_stepping.specs.Sends.{Sends}
use Rattle.aom_debug_stepping.specs.RunGoals.{dispatch_goal_of}
use Rattle.aom_debug_stepping.proofs.Keeping.{begun_as, keeps_on, went_as}
use Rattle.aom_debug_stepping.proofs.Turning.{in_dispatch, over_there, walk_cut}
use Rattle.aom_debug_stepping.proofs.Typed.{strongest_as}
use Rattle.aom_debug_stepping.proofs.dispatch.run_in_dispatch.Goals as goal

pub returns-in-Running-clause-went : goal.returns-in-Running-clause-went
returns-in-Running-clause-went g c = λ t strongest.
    let a = c.args.runner.now in
    let m = c.arrive.new.runner in
    let n = c.run_to_dispatch_goal.new.runner in
    let marks = c.args.breakpoints.now in
    let some = c.in_ok-other.ensures.went in
    let goes = begun_as c.arrive.ensures.keeps (λ q r. Sends (dispatch_goal_of t q r marks c.args.stretch.now a.recent n.recent) m.machine
    (g.W.Sink.out c.arrive.new.out) (g.W.Sink.out c.run_to_dispatch_goal.new.out) n.machine) in
    went_as a m n _ _ _ _ c.run_to_dispatch_goal.result
    (λ x. in_dispatch _ _ (dispatch_goal_of t a.machine.core.image a.lines.refused marks c.args.stretch.now)
    a.recent n.recent a.machine m.machine n.machine _ _ _ some.0 (sym some.1 ∙ c.in-Running.is) (goes (rw c.arrive.ensures.recent at x)))
    (λ x. walk_cut a m n c.arrive.ensures.keeps _ _ _ some.0 x) (c.run_to_dispatch_goal.ensures.went t (strongest_as c.arrive.ensures.keeps t strongest))

pub returns-in_default-clause-went : goal.returns-in_default-clause-went
returns-in_default-clause-went g c = λ t strongest.
    let a = c.args.runner.now in
    let m = c.arrive.new.runner in
    let some = c.in_ok-other.ensures.went in
    let leads = dispatch_goal_of t a.machine.core.image a.lines.refused c.args.breakpoints.now c.args.stretch.now in (
      over_there _ _ leads a.recent m.recent c.arrive.ensures.recent a.machine m.machine _ _ (λ is. c.in_default.not-Running (some.1 ∙ is))
          (λ is. c.in_ok-other.ensures.goes (some.1 ∙ is)) some.0,
      some.1,
    )

pub arrive-requires-clause-agree : goal.arrive-requires-clause-agree
arrive-requires-clause-agree g c = c.requires.agree

pub arrive-requires-clause-ready : goal.arrive-requires-clause-ready
arrive-requires-clause-ready g c = c.requires.ready

pub returns-in_err-other-clause-agree : goal.returns-in_err-other-clause-agree
returns-in_err-other-clause-agree g c = c.arrive.ensures.agree

pub returns-in_err-other-clause-keeps : goal.returns-in_err-other-clause-keeps
returns-in_err-other-clause-keeps g c = c.arrive.ensures.keeps

pub returns-in_err-other-clause-went : goal.returns-in_err-other-clause-went
returns-in_err-other-clause-went g c = λ t strongest. rw c.from_residual.ensures c.in_err-other.ensures.went

pub run_to_dispatch_goal-requires-clause-agree : goal.run_to_dispatch_goal-requires-clause-agree
run_to_dispatch_goal-requires-clause-agree g c = c.arrive.ensures.agree

pub run_to_dispatch_goal-requires-clause-ready : goal.run_to_dispatch_goal-requires-clause-ready
run_to_dispatch_goal-requires-clause-ready g c = c.arrive.ensures.keeps.ready

pub run_to_dispatch_goal-requires-clause-running : goal.run_to_dispatch_goal-requires-clause-running
run_to_dispatch_goal-requires-clause-running g c = sym c.in_ok-other.ensures.went.1 ∙ c.in-Running.is

pub returns-in-Running-clause-agree : goal.returns-in-Running-clause-agree
returns-in-Running-clause-agree g c = c.run_to_dispatch_goal.ensures.agree

pub returns-in-Running-clause-keeps : goal.returns-in-Running-clause-keeps
returns-in-Running-clause-keeps g c = keeps_on c.arrive.ensures.keeps c.run_to_dispatch_goal.ensures.keeps

pub returns-in_default-clause-agree : goal.returns-in_default-clause-agree
returns-in_default-clause-agree g c = c.arrive.ensures.agree

pub returns-in_default-clause-keeps : goal.returns-in_default-clause-keeps
returns-in_default-clause-keeps g c = c.arrive.ensures.keeps
