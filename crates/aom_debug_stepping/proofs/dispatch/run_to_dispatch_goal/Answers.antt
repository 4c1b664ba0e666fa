-- Each stretch is a walk.
use Rattle.aom_semantics.specs.State.{State}
use Rattle.aom_debug_stepping.specs.RunGoals.{stays_at}
use Rattle.aom_debug_stepping.proofs.Keeping.{went_as}
use Rattle.aom_debug_stepping.proofs.Scopes.{walks_over}
use Rattle.aom_debug_stepping.proofs.DebugSteps.{walked_on}
use Rattle.aom_debug_stepping.proofs.dispatch.run_to_dispatch_goal.Goals as goal

pub returns-in-Whole-clause-went : goal.returns-in-Whole-clause-went
returns-in-Whole-clause-went g c = rw c.in-Whole.is c.walk.ensures.went

pub returns-in-Over-clause-went : goal.returns-in-Over-clause-went
returns-in-Over-clause-went g c =
    let a = c.args.runner.now in
    let n = c.walk-in-Over.new.runner in
    rw c.in-Over.is (λ t strongest. went_as a a n _ _ _ _ c.walk-in-Over.result (walks_over t a.machine.core.image a.lines.refused c.in-Over.scope c.args.breakpoints.now
    a.recent n.recent c.depth_of-depth.result a.machine n.machine _ _ c.depth_of-depth.ensures) (λ x. x) (c.walk-in-Over.ensures.went t strongest))

pub returns-in-To-clause-went : goal.returns-in-To-clause-went
returns-in-To-clause-went g c = rw c.in-To.is c.walk-in-To.ensures.went

pub returns-in-OnTo-clause-went : goal.returns-in-OnTo-clause-went
returns-in-OnTo-clause-went g c =
    let a = c.args.runner.now in
    let p = a.machine.core.image in
    let n = c.walk_unless.new.runner in
    let rests = c.is_there-rests in
    rw c.in-OnTo.is (λ t strongest. went_as a a n _ _ _ _ c.walk_unless.result
    (walked_on p a.lines.refused (λ (s : State). stays_at t p c.in-OnTo.until c.args.breakpoints.now s)
    a.recent n.recent a.machine n.machine _ _ rests.result (rests.ensures t strongest)) (λ x. x) (c.walk_unless.ensures.went t strongest))

pub is_there-rests-requires : goal.is_there-rests-requires
is_there-rests-requires g c = c.requires.ready.stands

pub walk-requires-clause-agree : goal.walk-requires-clause-agree
walk-requires-clause-agree g c = c.requires.agree

pub walk-requires-clause-ready : goal.walk-requires-clause-ready
walk-requires-clause-ready g c = c.requires.ready

pub walk-requires-clause-running : goal.walk-requires-clause-running
walk-requires-clause-running g c = c.requires.running

pub returns-in-Whole-clause-agree : goal.returns-in-Whole-clause-agree
returns-in-Whole-clause-agree g c = c.walk.ensures.agree

pub returns-in-Whole-clause-keeps : goal.returns-in-Whole-clause-keeps
returns-in-Whole-clause-keeps g c = c.walk.ensures.keeps

pub walk-requires-in-Over-clause-agree : goal.walk-requires-in-Over-clause-agree
walk-requires-in-Over-clause-agree g c = c.requires.agree

pub walk-requires-in-Over-clause-ready : goal.walk-requires-in-Over-clause-ready
walk-requires-in-Over-clause-ready g c = c.requires.ready

pub walk-requires-in-Over-clause-running : goal.walk-requires-in-Over-clause-running
walk-requires-in-Over-clause-running g c = c.requires.running

pub returns-in-Over-clause-agree : goal.returns-in-Over-clause-agree
returns-in-Over-clause-agree g c = c.walk-in-Over.ensures.agree

pub returns-in-Over-clause-keeps : goal.returns-in-Over-clause-keeps
returns-in-Over-clause-keeps g c = c.walk-in-Over.ensures.keeps

pub walk_unless-requires-clause-agree : goal.walk_unless-requires-clause-agree
walk_unless-requires-clause-agree g c = c.requires.agree

pub walk_unless-requires-clause-ready : goal.walk_unless-requires-clause-ready
walk_unless-requires-clause-ready g c = c.requires.ready

pub walk_unless-requires-clause-running : goal.walk_unless-requires-clause-running
walk_unless-requires-clause-running g c = λ _. c.requires.running

pub returns-in-OnTo-clause-agree : goal.returns-in-OnTo-clause-agree
returns-in-OnTo-clause-agree g c = c.walk_unless.ensures.agree

pub returns-in-OnTo-clause-keeps : goal.returns-in-OnTo-clause-keeps
returns-in-OnTo-clause-keeps g c = c.walk_unless.ensures.keeps

pub walk-requires-in-To-clause-agree : goal.walk-requires-in-To-clause-agree
walk-requires-in-To-clause-agree g c = c.requires.agree

pub walk-requires-in-To-clause-ready : goal.walk-requires-in-To-clause-ready
walk-requires-in-To-clause-ready g c = c.requires.ready

pub walk-requires-in-To-clause-running : goal.walk-requires-in-To-clause-running
walk-requires-in-To-clause-running g c = c.requires.running

pub returns-in-To-clause-agree : goal.returns-in-To-clause-agree
returns-in-To-clause-agree g c = c.walk-in-To.ensures.agree

pub returns-in-To-clause-keeps : goal.returns-in-To-clause-keeps
returns-in-To-clause-keeps g c = c.walk-in-To.ensures.keeps
