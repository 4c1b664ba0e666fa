-- A step that is asked for, and its lines; or nothing.
use Rattle.std.proofs.Common.{◌∙◌, arith, refl, sym}
use Rattle.std.proofs.lemmas.Bool.{true≢false}
use Rattle.aom_debug_stepping.specs.Moves.{StepsOnce}
use Rattle.aom_debug_stepping.proofs.Keeping.{keeps_all, keeps_with, went_if}
use Rattle.aom_debug_stepping.proofs.Sending.{breaks_step, cleared, far_after, sends_if_not, sends_if_so, sends_step, stands_after, stepped_of, was_running}
use Rattle.aom_debug_stepping.proofs.stepping.step_if.Goals as goal

pub returns-then-not-asked-clause-went : goal.returns-then-not-asked-clause-went
returns-then-not-asked-clause-went g c = (sends_if_not c.args.asked c.if-not-asked.true _ c.args.runner.now.machine _, c.progress.ensures)

pub returns-clause-keeps : goal.returns-clause-keeps
returns-clause-keeps g c =
    let a = c.args.runner.now in
    let ready = c.requires.ready in
    let step = c.step-progress in
    let steps = stepped_of a.machine step.new.self step.result a.lines step.new.lines step.ensures.steps in
    let same = cleared a.machine step.new.self step.result a.lines step.new.lines ready.none steps ready.stands c.send.new.lines c.send.ensures.clear in
    keeps_with a ready _ _ _ step.ensures.image step.ensures.natives same
    (stands_after a.machine step.new.self step.result a.lines step.new.lines ready.none steps ready.stands)

pub returns-clause-went : goal.returns-clause-went
returns-clause-went g c =
    let a = c.args.runner.now in
    let ready = c.requires.ready in
    let step = c.step-progress in
    let new = record a { machine = step.new.self; lines = c.send.new.lines; page = c.send.new.page } in
    let before = g.W.Sink.out c.args.out.now in
    let out = g.W.Sink.out c.send.new.out in
    let leads = StepsOnce a.machine.core.image a.lines.refused in
    let steps = stepped_of a.machine step.new.self step.result a.lines step.new.lines step.ensures.steps in
    went_if a new before out (g.W.Sink.failed c.send.new.out) step.result c.send.result c.then_some.result c.then_some.ensures
    (far_after a.machine step.new.self step.result a.lines step.new.lines ready.none steps ready.stands)
    (λ all. sends_if_so c.args.asked c.if-not-asked.false leads a.machine step.new.self before out
    (sends_step a.machine step.new.self step.result a.lines step.new.lines ready.none steps before out (c.send.ensures.whole all)))
    (λ part. (c.send.ensures.fails part, breaks_step a.machine step.new.self step.result a.lines step.new.lines ready.none steps before out c.send.ensures.prefix.0 c.send.ensures.prefix.1))

pub returns-clause-was : goal.returns-clause-was
returns-clause-was g c =
    let a = c.args.runner.now in
    let step = c.step-progress in
    was_running a.machine step.new.self step.result a.lines step.new.lines c.requires.ready.none
    (stepped_of a.machine step.new.self step.result a.lines step.new.lines step.ensures.steps) c.requires.ready.stands

pub returns-then-not-asked-clause-agree : goal.returns-then-not-asked-clause-agree
returns-then-not-asked-clause-agree g c = c.requires.agree

pub returns-then-not-asked-clause-keeps : goal.returns-then-not-asked-clause-keeps
returns-then-not-asked-clause-keeps g c = keeps_all c.args.runner.now c.requires.ready

pub returns-then-not-asked-clause-recent : goal.returns-then-not-asked-clause-recent
returns-then-not-asked-clause-recent g c = refl

pub returns-then-not-asked-clause-was : goal.returns-then-not-asked-clause-was
returns-then-not-asked-clause-was g c = λ is. is

pub step-progress-requires-clause-agree : goal.step-progress-requires-clause-agree
step-progress-requires-clause-agree g c = c.requires.agree

pub step-progress-requires-clause-stands : goal.step-progress-requires-clause-stands
step-progress-requires-clause-stands g c = c.requires.ready.stands

pub returns-clause-agree : goal.returns-clause-agree
returns-clause-agree g c = c.step-progress.ensures.agree

pub returns-clause-recent : goal.returns-clause-recent
returns-clause-recent g c = refl

pub step-progress-requires-clause-room : goal.step-progress-requires-clause-room
step-progress-requires-clause-room g c = rw c.requires.ready.none (omega (arith, c.requires.ready.room))

pub returns-then-not-asked-clause-rank : goal.returns-then-not-asked-clause-rank
returns-then-not-asked-clause-rank g c = λ _. omega arith

pub returns-then-not-asked-clause-falls : goal.returns-then-not-asked-clause-falls
returns-then-not-asked-clause-falls g c = λ asked. absurd (true≢false (sym asked ∙ c.if-not-asked.true))

pub returns-clause-rank : goal.returns-clause-rank
returns-clause-rank g c =
    let a = c.args.runner.now in
    let ready = c.requires.ready in
    let step = c.step-progress in
    let steps = stepped_of a.machine step.new.self step.result a.lines step.new.lines step.ensures.steps in
    λ running.
    let falls = step.ensures.falls (far_after a.machine step.new.self step.result a.lines step.new.lines ready.none steps ready.stands ∙ running) in
    omega (arith, falls)

pub returns-clause-falls : goal.returns-clause-falls
returns-clause-falls g c =
    let a = c.args.runner.now in
    let ready = c.requires.ready in
    let step = c.step-progress in
    let steps = stepped_of a.machine step.new.self step.result a.lines step.new.lines step.ensures.steps in
    λ asked running. step.ensures.falls (far_after a.machine step.new.self step.result a.lines step.new.lines ready.none steps ready.stands ∙ running)
