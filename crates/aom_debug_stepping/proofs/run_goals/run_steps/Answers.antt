-- A step more, after its turns.
use Rattle.std.proofs.Common.{arith, subst, suc, ◌≡◌, ◌∙◌, ◌+◌, sym}
use Rattle.aom_run.specs.Runs.{Moving}
use Rattle.aom_debug_stepping.specs.Runners.{outside_of}
use Rattle.aom_debug_stepping.specs.Moves.{DebugSteps}
use Rattle.aom_debug_stepping.specs.Sends.{Breaks, Sends}
use Rattle.aom_debug_stepping.proofs.Going.{GoesSo, all_made, comes_so, cut_so, ends_early, goes_cut, no_steps, one_more, step_cut}
use Rattle.aom_debug_stepping.proofs.Keeping.{begun_as, keeps_all, keeps_on}
use Rattle.aom_debug_stepping.proofs.run_goals.run_steps.Goals as goal

pub loop-done-init : goal.loop-done-init
loop-done-init g c =
    let a = c.args.runner.now in
    record {
      so_far = no_steps a.machine.core.image (outside_of a) a.recent a.machine (g.W.Sink.out c.args.out.now);
      within = omega arith;
      keeps = keeps_all a c.requires.ready;
      agree = c.requires.agree;
    }

pub returns-in_err-other-clause-went : goal.returns-in_err-other-clause-went
returns-in_err-other-clause-went g c =
    let a = c.args.runner.now in
    let i = c.loop-done.invariant in
    let m = c.loop-done.runner in
    rw c.from_residual.ensures (
      c.in_err-other.ensures.went.0,
      goes_cut a.machine.core.image (outside_of a) c.loop-done.done a.recent m.recent a.machine m.machine c.arrive.new.runner.machine _ _ _ i.so_far
          (cut_so a m c.arrive.new.runner i.keeps _ _ c.in_err-other.ensures.went.1),
    )

pub returns-in_default-clause-went : goal.returns-in_default-clause-went
returns-in_default-clause-went g c =
    let a = c.args.runner.now in
    let m = c.loop-done.runner in
    let n = c.arrive.new.runner in
    let some = c.in_ok-other.ensures.went in (
      rw c.arrive.ensures.recent (ends_early _ (outside_of a) _ a.recent m.recent
          a.machine m.machine n.machine _ _ _ c.loop-done.invariant.so_far c.args.steps c.loop-done-test.true (λ is. c.in_default.not-Running (some.1 ∙ is))
          (λ is. c.in_ok-other.ensures.goes (some.1 ∙ is)) (comes_so a m n c.loop-done.invariant.keeps _ _ some.0)),
      some.1,
    )

pub returns-in_err-debug_step-clause-went : goal.returns-in_err-debug_step-clause-went
returns-in_err-debug_step-clause-went g c =
    let a = c.args.runner.now in
    let keeps = c.loop-done.invariant.keeps in
    let m = c.loop-done.runner in
    let mid = c.arrive.new.runner in
    let n = c.debug_step.new.runner.machine in
    let out = g.W.Sink.out c.debug_step.new.out in
    let comes = comes_so a m mid keeps _ _ c.in_ok-other.ensures.went.0 in
    let off = c.in_err-debug_step.ensures.went in
    let cut = begun_as (keeps_on keeps c.arrive.ensures.keeps) (λ q r. Breaks (Moving q r) mid.machine (g.W.Sink.out c.arrive.new.out) out n) off.1 in
    rw c.from_residual-in_err-debug_step.ensures (
      off.0,
      step_cut a.machine.core.image
          (outside_of a) c.loop-done.done a.recent m.recent a.machine m.machine mid.machine _ _ _ c.loop-done.invariant.so_far n out comes cut,
    )

pub loop-done-preserved : goal.loop-done-preserved
loop-done-preserved g c =
    let a = c.args.runner.now in
    let i = c.loop-done.invariant in
    let m = c.loop-done.runner in
    let mid = c.arrive.new.runner in
    let n = c.debug_step.new.runner in
    let out = g.W.Sink.out c.debug_step.new.out in
    let some = c.in_ok-other.ensures.went in
    let comes = comes_so a m mid i.keeps _ _ some.0 in
    let keeps = keeps_on i.keeps c.arrive.ensures.keeps in
    let noted = subst (λ spots. Sends (DebugSteps mid.machine.core.image mid.lines.refused spots n.recent) mid.machine
    (g.W.Sink.out c.arrive.new.out) out n.machine) c.arrive.ensures.recent c.in_ok-debug_step.ensures.went.0 in
    let step = begun_as keeps (λ q r. Sends (DebugSteps q r m.recent n.recent) mid.machine (g.W.Sink.out c.arrive.new.out) out n.machine) noted in
    let more : suc c.loop-done.done ≡ c.loop-done.done + 1 = omega arith in
    record {
      so_far = subst (λ k. Sends (GoesSo a.machine.core.image (outside_of a) k a.recent n.recent) a.machine (g.W.Sink.out c.args.out.now) out n.machine) more
          (one_more a.machine.core.image (outside_of a) c.loop-done.done
          a.recent m.recent a.machine m.machine mid.machine _ _ _ i.so_far n.machine out comes n.recent (sym some.1 ∙ c.in-Running.is) step);
      within = omega (arith, c.loop-done-test.true);
      keeps = keeps_on keeps c.debug_step.ensures.keeps;
      agree = c.debug_step.ensures.agree;
    }

pub returns-clause-went : goal.returns-clause-went
returns-clause-went g c =
    let a = c.args.runner.now in
    let m = c.loop-done.runner in
    let i = c.loop-done.invariant in
    let all : c.loop-done.done ≡ c.args.steps = omega (arith, c.loop-done-test.false, i.within) in
    (all_made a.machine.core.image _ _ _ all a.recent m.recent a.machine m.machine (g.W.Sink.out c.args.out.now) (g.W.Sink.out c.loop-done.out) i.so_far, c.progress.ensures)

pub arrive-requires-clause-agree : goal.arrive-requires-clause-agree
arrive-requires-clause-agree g c = c.loop-done.invariant.agree

pub arrive-requires-clause-ready : goal.arrive-requires-clause-ready
arrive-requires-clause-ready g c = c.loop-done.invariant.keeps.ready

pub returns-in_err-other-clause-agree : goal.returns-in_err-other-clause-agree
returns-in_err-other-clause-agree g c = c.arrive.ensures.agree

pub returns-in_err-other-clause-keeps : goal.returns-in_err-other-clause-keeps
returns-in_err-other-clause-keeps g c = keeps_on c.loop-done.invariant.keeps c.arrive.ensures.keeps

pub returns-in_default-clause-agree : goal.returns-in_default-clause-agree
returns-in_default-clause-agree g c = c.arrive.ensures.agree

pub returns-in_default-clause-keeps : goal.returns-in_default-clause-keeps
returns-in_default-clause-keeps g c = keeps_on c.loop-done.invariant.keeps c.arrive.ensures.keeps

pub debug_step-requires-clause-agree : goal.debug_step-requires-clause-agree
debug_step-requires-clause-agree g c = c.arrive.ensures.agree

pub debug_step-requires-clause-ready : goal.debug_step-requires-clause-ready
debug_step-requires-clause-ready g c = c.arrive.ensures.keeps.ready

pub returns-in_err-debug_step-clause-agree : goal.returns-in_err-debug_step-clause-agree
returns-in_err-debug_step-clause-agree g c = c.debug_step.ensures.agree

pub returns-in_err-debug_step-clause-keeps : goal.returns-in_err-debug_step-clause-keeps
returns-in_err-debug_step-clause-keeps g c = keeps_on (keeps_on c.loop-done.invariant.keeps c.arrive.ensures.keeps) c.debug_step.ensures.keeps

pub loop-done-smaller : goal.loop-done-smaller
loop-done-smaller g c = omega (arith, c.loop-done-test.true)

pub returns-clause-agree : goal.returns-clause-agree
returns-clause-agree g c = c.loop-done.invariant.agree

pub returns-clause-keeps : goal.returns-clause-keeps
returns-clause-keeps g c = c.loop-done.invariant.keeps

pub overflow_add-done : goal.overflow_add-done
overflow_add-done g c = omega (arith, c.loop-done-test.true)
