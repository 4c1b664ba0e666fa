-- Steps as long as something is at hand and it is no place to stay.
use Rattle.std.proofs.Common.{ap, ◌∙◌, sym}
use Rattle.aom_debug_stepping.proofs.Keeping.{keeps_all, keeps_on}
use Rattle.aom_debug_stepping.specs.RunGoals.{stays_at}
use Rattle.aom_debug_stepping.proofs.DebugSteps.{not_there, nowhere, over, step_cut, stepped, there}
use Rattle.aom_debug_stepping.proofs.Typed.{strongest_as}
use Rattle.aom_debug_stepping.proofs.walking.walk.Goals as goal

pub loop-progress-init : goal.loop-progress-init
loop-progress-init g c =
    let a = c.args.runner.now in
    record {
      so_far = λ t strongest. nowhere a.machine.core.image a.lines.refused (λ s. stays_at t a.machine.core.image c.args.until.now c.args.breakpoints.now s) a.recent a.machine _;
      running = c.requires.running;
      keeps = keeps_all a c.requires.ready;
      agree = c.requires.agree;
    }

pub returns-in_err-progress-clause-went : goal.returns-in_err-progress-clause-went
returns-in_err-progress-clause-went g c = λ t strongest.
    let i = c.loop-progress.invariant in
    let off = c.in_err-progress.ensures.went in
    rw c.from_residual.ensures (off.0, step_cut c.args.runner.now c.loop-progress.runner c.debug_step.new.runner i.keeps _ _ _ _ _ (i.so_far t strongest) off.1)

pub returns-in_default-clause-went : goal.returns-in_default-clause-went
returns-in_default-clause-went g c = λ t strongest.
    let i = c.loop-progress.invariant in
    let some = c.in_ok-progress.ensures.went in
    let made = stepped c.args.runner.now c.loop-progress.runner c.debug_step.new.runner i.keeps _ _ _ _ _ (i.so_far t strongest) i.running some.0 in
    (over _ _ _ _ _ c.args.runner.now.machine c.debug_step.new.runner.machine _ _ made (λ is. c.in_default.not-Running (some.1 ∙ is)), some.1)

pub returns-then-is_there-clause-went : goal.returns-then-is_there-clause-went
returns-then-is_there-clause-went g c = λ t strongest.
    let i = c.loop-progress.invariant in
    let some = c.in_ok-progress.ensures.went in
    let made = stepped c.args.runner.now c.loop-progress.runner c.debug_step.new.runner i.keeps _ _ _ _ _ (i.so_far t strongest) i.running some.0 in
    let keeps = keeps_on i.keeps c.debug_step.ensures.keeps in (
      there _ _ _ _ _ c.args.runner.now.machine c.debug_step.new.runner.machine _ _ made c.is_there.result c.if-is_there.true
          (λ s st. c.is_there.ensures t (strongest_as keeps t strongest) s st ∙ ap (λ q. stays_at t q c.args.until.now c.args.breakpoints.now s) keeps.image),
      some.1,
    )

pub loop-progress-preserved : goal.loop-progress-preserved
loop-progress-preserved g c =
    let i = c.loop-progress.invariant in
    let some = c.in_ok-progress.ensures.went in
    let keeps = keeps_on i.keeps c.debug_step.ensures.keeps in
    record {
      so_far = λ t strongest.
          let made = stepped c.args.runner.now c.loop-progress.runner c.debug_step.new.runner i.keeps _ _ _ _ _ (i.so_far t strongest) i.running some.0 in
          not_there _ _ _ _ _ c.args.runner.now.machine c.debug_step.new.runner.machine _ _ made c.is_there.result c.if-is_there.false
          (λ s st. c.is_there.ensures t (strongest_as keeps t strongest) s st ∙ ap (λ q. stays_at t q c.args.until.now c.args.breakpoints.now s) keeps.image);
      running = sym some.1 ∙ c.in-Running.is;
      keeps = keeps;
      agree = c.debug_step.ensures.agree;
    }

pub debug_step-requires-clause-agree : goal.debug_step-requires-clause-agree
debug_step-requires-clause-agree g c = c.loop-progress.invariant.agree

pub debug_step-requires-clause-ready : goal.debug_step-requires-clause-ready
debug_step-requires-clause-ready g c = c.loop-progress.invariant.keeps.ready

pub returns-in_err-progress-clause-agree : goal.returns-in_err-progress-clause-agree
returns-in_err-progress-clause-agree g c = c.debug_step.ensures.agree

pub returns-in_err-progress-clause-keeps : goal.returns-in_err-progress-clause-keeps
returns-in_err-progress-clause-keeps g c = keeps_on c.loop-progress.invariant.keeps c.debug_step.ensures.keeps

pub returns-in_default-clause-agree : goal.returns-in_default-clause-agree
returns-in_default-clause-agree g c = c.debug_step.ensures.agree

pub returns-in_default-clause-keeps : goal.returns-in_default-clause-keeps
returns-in_default-clause-keeps g c = keeps_on c.loop-progress.invariant.keeps c.debug_step.ensures.keeps

pub is_there-requires : goal.is_there-requires
is_there-requires g c = c.debug_step.ensures.keeps.ready.stands

pub returns-then-is_there-clause-agree : goal.returns-then-is_there-clause-agree
returns-then-is_there-clause-agree g c = c.debug_step.ensures.agree

pub returns-then-is_there-clause-keeps : goal.returns-then-is_there-clause-keeps
returns-then-is_there-clause-keeps g c = keeps_on c.loop-progress.invariant.keeps c.debug_step.ensures.keeps

pub loop-progress-smaller : goal.loop-progress-smaller
loop-progress-smaller g c = c.in_ok-progress.ensures.falls (sym c.in_ok-progress.ensures.went.1 ∙ c.in-Running.is)
