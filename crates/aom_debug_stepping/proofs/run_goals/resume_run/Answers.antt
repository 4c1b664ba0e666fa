-- Steps in the dispatch at hand, and then in one dispatch after another.
use Rattle.std.proofs.Common.{subst, ◌∙◌, ◌<◌, sym}
use Rattle.aom_semantics.specs.State.{State}
use Rattle.aom_semantics.specs.World.{Reaches}
use Rattle.aom_debug_stepping.specs.Runners.{outside_of}
use Rattle.aom_debug_stepping.specs.Sends.{Breaks}
use Rattle.aom_debug_stepping.proofs.Keeping.{observed_as, keeps_on}
use Rattle.aom_debug_stepping.proofs.Sending.{nearer, to_go}
use Rattle.aom_debug_stepping.specs.RunGoals.{stays_at}
use Rattle.aom_debug_stepping.proofs.Going.{cut_run}
use Rattle.aom_debug_stepping.proofs.Leaving.{left_falls, left_in}
use Rattle.aom_debug_stepping.proofs.Passing.{begins_far, far_cut, goes_far, passed, went_on}
use Rattle.aom_debug_stepping.proofs.DebugSteps.{walked_if_any}
use Rattle.aom_debug_stepping.proofs.Typed.{strongest_as}
use Rattle.aom_debug_stepping.proofs.run_goals.resume_run.Goals as goal

pub loop-progress-init : goal.loop-progress-init
loop-progress-init g c =
    let a = c.args.runner.now in
    let p = a.machine.core.image in
    let m = c.walk_unless.new.runner in
    let before = g.W.Sink.out c.args.out.now in
    let out = g.W.Sink.out c.walk_unless.new.out in
    let t0 = c.requires.ready.stands.1.stands.typing in
    let strongest0 = c.requires.ready.stands.1.stands.sound.strongest in
    record {
      so_far = λ t strongest.
          let stays = λ (s : State). stays_at t p c.args.until c.args.breakpoints.now s in
          let walks = walked_if_any p _ stays a.recent m.recent a.machine m.machine before out _ c.is_idle-rests.ensures.rests (c.in_ok-progress.ensures.went t strongest).0 in
          begins_far p (outside_of a) stays a.recent m.recent a.machine m.machine before out walks;
      far = (c.in_ok-progress.ensures.went t0 strongest0).1;
      keeps = c.walk_unless.ensures.keeps;
      agree = c.walk_unless.ensures.agree;
    }

pub returns-in_default-clause-went : goal.returns-in_default-clause-went
returns-in_default-clause-went g c = λ t strongest.
    let a = c.args.runner.now in
    let p = a.machine.core.image in
    let m = c.loop-progress.runner in
    let stays = λ (s : State). stays_at t p c.args.until c.args.breakpoints.now s in
    let i = c.loop-progress.invariant in
    (went_on p (outside_of a) stays a.recent m.recent a.machine m.machine (g.W.Sink.out c.args.out.now) (g.W.Sink.out c.loop-progress.out) (λ is. c.in_default.not-Turned (i.far ∙ is)) (i.so_far t strongest), i.far)

pub returns-in_err-progress-clause-went : goal.returns-in_err-progress-clause-went
returns-in_err-progress-clause-went g c = λ t strongest.
    let a = c.args.runner.now in
    let off = c.in_err-progress.ensures.went t strongest in
    rw c.from_residual.ensures (off.0, cut_run a.machine.core.image (outside_of a) a.machine c.walk_unless.new.runner.machine (g.W.Sink.out c.args.out.now) (g.W.Sink.out c.walk_unless.new.out) off.1)

pub returns-in_err-progress-2-clause-went : goal.returns-in_err-progress-2-clause-went
returns-in_err-progress-2-clause-went g c = λ t strongest.
    let a = c.args.runner.now in
    let p = a.machine.core.image in
    let stays = λ (s : State). stays_at t p c.args.until c.args.breakpoints.now s in
    let i = c.loop-progress.invariant in
    let m = c.loop-progress.runner in
    let n = c.run_in_dispatch.new.runner in
    let here = g.W.Sink.out c.loop-progress.out in
    let out = g.W.Sink.out c.run_in_dispatch.new.out in
    let off = c.in_err-progress-2.ensures.went t (strongest_as i.keeps t strongest) in
    let cut = observed_as i.keeps (λ q o. Breaks (Reaches q o) m.machine here out n.machine) off.1 in
    rw c.from_residual-in_err-progress-2.ensures (off.0, far_cut p _ stays a.recent m.recent a.machine m.machine n.machine _ here out (i.so_far t strongest) cut)

pub loop-progress-smaller : goal.loop-progress-smaller
loop-progress-smaller g c =
    let a = c.args.runner.now in
    let keeps = c.loop-progress.invariant.keeps in
    let m = c.loop-progress.runner in
    let n = c.run_in_dispatch.new.runner in
    let t = c.requires.ready.stands.1.stands.typing in
    let strongest = c.requires.ready.stands.1.stands.sound.strongest in
    let went = c.in_ok-progress-2.ensures.went in
    let some = went t (strongest_as keeps t strongest) in
    let on = passed a m n keeps t c.args.until c.args.breakpoints.now _ _ some.0 in
    let resting = sym c.loop-progress.invariant.far ∙ c.in-Turned.is in
    let later = left_in a.script.timed a.limit n.machine.core.parts.rest in
    let before = left_in a.script.timed a.limit m.machine.core.parts.rest in
    let far = c.in_ok-progress-2.progress in
    let less = nearer far later before (λ again. left_falls a.machine.core.image
    (outside_of a) c.requires.ready.few _ _ _ m.machine n.machine _ _ keeps.ready.stands resting on (sym some.1 ∙ again)) in
    subst (λ q. to_go far later < to_go q before) (sym c.in-Turned.is) less

pub loop-progress-preserved : goal.loop-progress-preserved
loop-progress-preserved g c =
    let a = c.args.runner.now in
    let p = a.machine.core.image in
    let i = c.loop-progress.invariant in
    let m = c.loop-progress.runner in
    let n = c.run_in_dispatch.new.runner in
    let went = c.in_ok-progress-2.ensures.went in
    let t0 = c.requires.ready.stands.1.stands.typing in
    let strongest0 = c.requires.ready.stands.1.stands.sound.strongest in
    record {
      so_far = λ t strongest.
          let stays = λ (s : State). stays_at t p c.args.until c.args.breakpoints.now s in
          let some = went t (strongest_as i.keeps t strongest) in
          let on = passed a m n i.keeps t c.args.until c.args.breakpoints.now _ _ some.0 in
          goes_far p (outside_of a) stays a.recent m.recent a.machine m.machine n.machine _ _ _ (i.so_far t strongest) n.recent on;
      far = (went t0 (strongest_as i.keeps t0 strongest0)).1;
      keeps = keeps_on i.keeps c.run_in_dispatch.ensures.keeps;
      agree = c.run_in_dispatch.ensures.agree;
    }

pub walk_unless-requires-clause-agree : goal.walk_unless-requires-clause-agree
walk_unless-requires-clause-agree g c = c.requires.agree

pub walk_unless-requires-clause-ready : goal.walk_unless-requires-clause-ready
walk_unless-requires-clause-ready g c = c.requires.ready

pub walk_unless-requires-clause-running : goal.walk_unless-requires-clause-running
walk_unless-requires-clause-running g c = c.is_idle-rests.ensures.goes

pub returns-in_err-progress-clause-agree : goal.returns-in_err-progress-clause-agree
returns-in_err-progress-clause-agree g c = c.walk_unless.ensures.agree

pub returns-in_err-progress-clause-keeps : goal.returns-in_err-progress-clause-keeps
returns-in_err-progress-clause-keeps g c = c.walk_unless.ensures.keeps

pub returns-in_default-clause-agree : goal.returns-in_default-clause-agree
returns-in_default-clause-agree g c = c.loop-progress.invariant.agree

pub returns-in_default-clause-keeps : goal.returns-in_default-clause-keeps
returns-in_default-clause-keeps g c = c.loop-progress.invariant.keeps

pub run_in_dispatch-requires-clause-agree : goal.run_in_dispatch-requires-clause-agree
run_in_dispatch-requires-clause-agree g c = c.loop-progress.invariant.agree

pub run_in_dispatch-requires-clause-ready : goal.run_in_dispatch-requires-clause-ready
run_in_dispatch-requires-clause-ready g c = c.loop-progress.invariant.keeps.ready

pub returns-in_err-progress-2-clause-agree : goal.returns-in_err-progress-2-clause-agree
returns-in_err-progress-2-clause-agree g c = c.run_in_dispatch.ensures.agree

pub returns-in_err-progress-2-clause-keeps : goal.returns-in_err-progress-2-clause-keeps
returns-in_err-progress-2-clause-keeps g c = keeps_on c.loop-progress.invariant.keeps c.run_in_dispatch.ensures.keeps
