-- Steps, or nothing.
use Rattle.aom_debug_stepping.proofs.Keeping.{went_as}
use Rattle.aom_debug_stepping.proofs.DebugSteps.{goes_on, rests_here}
use Rattle.aom_debug_stepping.proofs.walking.walk_unless.Goals as goal

pub returns-then-rests-clause-went : goal.returns-then-rests-clause-went
returns-then-rests-clause-went g c = λ t strongest.
    let a = c.args.runner.now in
    (rests_here _ _ _ a.recent a.machine (g.W.Sink.out c.args.out.now) c.args.rests c.if-rests.true, c.progress.ensures)

pub returns-clause-went : goal.returns-clause-went
returns-clause-went g c = λ t strongest. went_as c.args.runner.now c.args.runner.now c.walk.new.runner _ _ _ _ c.walk.result
    (λ x. goes_on _ _ _ _ _ c.args.runner.now.machine c.walk.new.runner.machine _ _ c.args.rests c.if-rests.false x) (λ x. x) (c.walk.ensures.went t strongest)
