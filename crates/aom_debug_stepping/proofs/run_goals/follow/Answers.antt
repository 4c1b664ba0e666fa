-- Each course by its own; where it stops at breakpoints, by the strongest typing.
use Rattle.aom_semantics.specs.State.{State}
use Rattle.aom_semantics.specs.World.{Reaches}
use Rattle.aom_debug_stepping.specs.RunGoals.{GoesLines, GoesOn, InDispatch, WalksOver, change_by, stays_at}
use Rattle.aom_debug_stepping.specs.Runners.{outside_of}
use Rattle.aom_debug_stepping.specs.Stops.{is_local}
use Rattle.aom_debug_stepping.specs.declared.walking.Until.TheVariants.{Breakpoint, Place}
use Rattle.aom_debug_stepping.proofs.Typed.{went_typed}
use Rattle.aom_debug_stepping.proofs.run_goals.follow.Goals as goal

pub returns-in-Steps-clause-went : goal.returns-in-Steps-clause-went
returns-in-Steps-clause-went g c = rw c.in-Steps.is c.run_steps.ensures.went

pub returns-in-EndOfDispatch-clause-went : goal.returns-in-EndOfDispatch-clause-went
returns-in-EndOfDispatch-clause-went g c =
    let st = c.requires.ready.stands.1.stands in
    rw c.in-EndOfDispatch.is (c.run_in_dispatch.ensures.went st.typing st.sound.strongest)

pub returns-in-Breakpoint-clause-went : goal.returns-in-Breakpoint-clause-went
returns-in-Breakpoint-clause-went g c =
    let a = c.args.runner.now in
    let p = a.machine.core.image in
    let n = c.resume_run.new.runner in
    rw c.in-Breakpoint.is (went_typed (λ t. GoesOn p (outside_of a) (λ (s : State). stays_at t p Breakpoint c.args.breakpoints.now s)) (Reaches p (outside_of a)) a n
    c.requires.ready.stands a.recent n.recent _ _ _ c.resume_run.result c.resume_run.ensures.went)

pub returns-in-Steps-clause-agree : goal.returns-in-Steps-clause-agree
returns-in-Steps-clause-agree g c = c.run_steps.ensures.agree

pub returns-in-Steps-clause-keeps : goal.returns-in-Steps-clause-keeps
returns-in-Steps-clause-keeps g c = c.run_steps.ensures.keeps

pub returns-in-EndOfDispatch-clause-agree : goal.returns-in-EndOfDispatch-clause-agree
returns-in-EndOfDispatch-clause-agree g c = c.run_in_dispatch.ensures.agree

pub returns-in-EndOfDispatch-clause-keeps : goal.returns-in-EndOfDispatch-clause-keeps
returns-in-EndOfDispatch-clause-keeps g c = c.run_in_dispatch.ensures.keeps

pub returns-in-Breakpoint-clause-agree : goal.returns-in-Breakpoint-clause-agree
returns-in-Breakpoint-clause-agree g c = c.resume_run.ensures.agree

pub returns-in-Breakpoint-clause-keeps : goal.returns-in-Breakpoint-clause-keeps
returns-in-Breakpoint-clause-keeps g c = c.resume_run.ensures.keeps

pub run_steps-requires-clause-agree : goal.run_steps-requires-clause-agree
run_steps-requires-clause-agree g c = c.requires.agree

pub run_steps-requires-clause-ready : goal.run_steps-requires-clause-ready
run_steps-requires-clause-ready g c = c.requires.ready

pub run_in_dispatch-requires-clause-agree : goal.run_in_dispatch-requires-clause-agree
run_in_dispatch-requires-clause-agree g c = c.requires.agree

pub run_in_dispatch-requires-clause-ready : goal.run_in_dispatch-requires-clause-ready
run_in_dispatch-requires-clause-ready g c = c.requires.ready

pub resume_run-requires-clause-agree : goal.resume_run-requires-clause-agree
resume_run-requires-clause-agree g c = c.requires.agree

pub resume_run-requires-clause-ready : goal.resume_run-requires-clause-ready
resume_run-requires-clause-ready g c = c.requires.ready

pub returns-in-Over-clause-went : goal.returns-in-Over-clause-went
returns-in-Over-clause-went g c =
    let a = c.args.runner.now in
    let p = a.machine.core.image in
    let n = c.run_in_dispatch-in-Over.new.runner in
    rw c.in-Over.is (went_typed (λ t. InDispatch p (outside_of a) (WalksOver t p a.lines.refused c.in-Over.scope c.args.breakpoints.now)) (Reaches p (outside_of a)) a n
    c.requires.ready.stands a.recent n.recent _ _ _ c.run_in_dispatch-in-Over.result c.run_in_dispatch-in-Over.ensures.went)

pub returns-in-Place-clause-went : goal.returns-in-Place-clause-went
returns-in-Place-clause-went g c =
    let a = c.args.runner.now in
    let p = a.machine.core.image in
    let n = c.resume_run-in-Place.new.runner in
    rw c.in-Place.is (went_typed (λ t. GoesOn p (outside_of a) (λ (s : State). stays_at t p (Place c.in-Place.spot) c.args.breakpoints.now s)) (Reaches p (outside_of a)) a n
    c.requires.ready.stands a.recent n.recent _ _ _ c.resume_run-in-Place.result c.resume_run-in-Place.ensures.went)

pub returns-in-Change-clause-went : goal.returns-in-Change-clause-went
returns-in-Change-clause-went g c =
    let a = c.args.runner.now in
    let p = a.machine.core.image in
    let w = c.in-Change.watched in
    let n = c.await_change.new.runner in
    rw c.in-Change.is (went_typed (λ t. change_by (is_local w.variable) t p (outside_of a) w c.args.breakpoints.now) (Reaches p (outside_of a)) a n
    c.requires.ready.stands a.recent n.recent _ _ _ c.await_change.result c.await_change.ensures.went)

pub returns-in-Lines-clause-went : goal.returns-in-Lines-clause-went
returns-in-Lines-clause-went g c =
    let a = c.args.runner.now in
    let p = a.machine.core.image in
    let n = c.run_lines.new.runner in
    rw c.in-Lines.is (went_typed (λ t. GoesLines t p (outside_of a) c.args.breakpoints.now c.in-Lines.lines) (Reaches p (outside_of a)) a n
    c.requires.ready.stands a.recent n.recent _ _ _ c.run_lines.result c.run_lines.ensures.went)

pub returns-in-Lines-clause-agree : goal.returns-in-Lines-clause-agree
returns-in-Lines-clause-agree g c = c.run_lines.ensures.agree

pub returns-in-Lines-clause-keeps : goal.returns-in-Lines-clause-keeps
returns-in-Lines-clause-keeps g c = c.run_lines.ensures.keeps

pub run_lines-requires-clause-agree : goal.run_lines-requires-clause-agree
run_lines-requires-clause-agree g c = c.requires.agree

pub run_lines-requires-clause-ready : goal.run_lines-requires-clause-ready
run_lines-requires-clause-ready g c = c.requires.ready

pub returns-in-Change-clause-agree : goal.returns-in-Change-clause-agree
returns-in-Change-clause-agree g c = c.await_change.ensures.agree

pub returns-in-Change-clause-keeps : goal.returns-in-Change-clause-keeps
returns-in-Change-clause-keeps g c = c.await_change.ensures.keeps

pub await_change-requires-clause-agree : goal.await_change-requires-clause-agree
await_change-requires-clause-agree g c = c.requires.agree

pub await_change-requires-clause-ready : goal.await_change-requires-clause-ready
await_change-requires-clause-ready g c = c.requires.ready

pub returns-in-Over-clause-agree : goal.returns-in-Over-clause-agree
returns-in-Over-clause-agree g c = c.run_in_dispatch-in-Over.ensures.agree

pub returns-in-Over-clause-keeps : goal.returns-in-Over-clause-keeps
returns-in-Over-clause-keeps g c = c.run_in_dispatch-in-Over.ensures.keeps

pub returns-in-Place-clause-agree : goal.returns-in-Place-clause-agree
returns-in-Place-clause-agree g c = c.resume_run-in-Place.ensures.agree

pub returns-in-Place-clause-keeps : goal.returns-in-Place-clause-keeps
returns-in-Place-clause-keeps g c = c.resume_run-in-Place.ensures.keeps

pub run_in_dispatch-requires-in-Over-clause-agree : goal.run_in_dispatch-requires-in-Over-clause-agree
run_in_dispatch-requires-in-Over-clause-agree g c = c.requires.agree

pub run_in_dispatch-requires-in-Over-clause-ready : goal.run_in_dispatch-requires-in-Over-clause-ready
run_in_dispatch-requires-in-Over-clause-ready g c = c.requires.ready

pub resume_run-requires-in-Place-clause-agree : goal.resume_run-requires-in-Place-clause-agree
resume_run-requires-in-Place-clause-agree g c = c.requires.agree

pub resume_run-requires-in-Place-clause-ready : goal.resume_run-requires-in-Place-clause-ready
resume_run-requires-in-Place-clause-ready g c = c.requires.ready
