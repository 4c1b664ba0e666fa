-- A course, and then the run's end where it has come to the limit.
use Rattle.aom_debug_stepping.specs.RunGoals.{way_of}
use Rattle.aom_debug_stepping.specs.Moves.{EndsByLimit, is_at_limit}
use Rattle.aom_debug_stepping.specs.Runners.{outside_of}
use Rattle.aom_debug_stepping.specs.Sends.{Sends, Where}
use Rattle.aom_debug_stepping.proofs.Keeping.{observed_as, keeps_on}
use Rattle.aom_debug_stepping.proofs.Sending.{sends_then}
use Rattle.aom_debug_stepping.proofs.run_goals.go.Goals as goal

pub returns-clause-went : goal.returns-clause-went
returns-clause-went g c =
    let a = c.args.runner.now in
    let m = c.follow.new.runner in
    let n = c.cut_at_limit.new.runner in
    let p = a.machine.core.image in
    let before = g.W.Sink.out c.args.out.now in
    let out = g.W.Sink.out c.follow.new.out in
    let ends = observed_as c.follow.ensures.keeps (λ q o. Sends (Where (is_at_limit o) (EndsByLimit q o)) m.machine out out n.machine)
    (c.cut_at_limit.ensures.ends out) in
    let way = way_of p (outside_of a) c.args.breakpoints.now c.args.course a.recent m.recent in
    let all = sends_then a.machine m.machine n.machine before out out way _ c.in_ok-follow.ensures.went.0 ends in
    (rw c.cut_at_limit.ensures.recent all, c.cut_at_limit.ensures.far)

pub returns-in_err-follow-clause-went : goal.returns-in_err-follow-clause-went
returns-in_err-follow-clause-went g c = rw c.from_residual.ensures c.in_err-follow.ensures.went

pub returns-clause-keeps : goal.returns-clause-keeps
returns-clause-keeps g c = keeps_on c.follow.ensures.keeps c.cut_at_limit.ensures.keeps
