-- Turns, as long as nothing is at hand: fewer dispatches or events are to come after each.
use Rattle.std.proofs.Common.{refl, subst, sym, ◌∙◌, ◌<◌}
use Rattle.aom_machine.specs.Steps.{progress}
use Rattle.aom_semantics.specs.World.{Reaches}
use Rattle.aom_run.specs.Turns.{TakesTurns}
use Rattle.aom_debug_stepping.proofs.RunLemmas.{left}
use Rattle.aom_debug_stepping.specs.Runners.{outside_of}
use Rattle.aom_debug_stepping.specs.Moves.{TurnsOnce}
use Rattle.aom_debug_stepping.specs.Sends.{Breaks, Sends}
use Rattle.aom_debug_stepping.proofs.Keeping.{observed_as, observes_as, keeps_all, keeps_on}
use Rattle.aom_debug_stepping.proofs.Sending.{arrives_cut, arrives_nowhere, arrives_on, fewer, nearer, to_go}
use Rattle.aom_debug_stepping.proofs.arriving.arrive.Goals as goal

pub loop-runner-init : goal.loop-runner-init
loop-runner-init g c =
    let a = c.args.runner.now in
    record {
      so_far = arrives_nowhere a.machine.core.image (outside_of a) a.machine (g.W.Sink.out c.args.out.now);
      keeps = keeps_all a c.requires.ready;
      recent = refl;
      agree = c.requires.agree;
    }

pub loop-runner-smaller : goal.loop-runner-smaller
loop-runner-smaller g c =
    let a = c.args.runner.now in
    let keeps = c.loop-runner.invariant.keeps in
    let m = c.loop-runner.runner in
    let turned = c.turn_until_dispatch.new.runner.machine in
    let resting = sym c.progress.ensures ∙ c.in-Turned.is in
    let takes = c.turn_until_dispatch.ensures.takes in
    let so = subst (λ o. TakesTurns m.machine o takes.0 m.lines takes.1 turned) (observes_as keeps) takes.2 in
    let less = nearer _ _ _ (λ again. fewer _ c.requires.ready.few m.machine turned m.lines takes.1 takes.0 keeps.ready.stands resting so again) in
    subst (λ q. to_go (progress turned.core) (left a.script.timed a.limit turned) < to_go q (left a.script.timed a.limit m.machine)) (sym resting) less

pub loop-runner-preserved : goal.loop-runner-preserved
loop-runner-preserved g c =
    let a = c.args.runner.now in
    let i = c.loop-runner.invariant in
    let m = c.loop-runner.runner.machine in
    let turned = c.turn_until_dispatch.new.runner.machine in
    let here = g.W.Sink.out c.loop-runner.out in
    let out = g.W.Sink.out c.turn_until_dispatch.new.out in
    let sent = observed_as i.keeps (λ q o. Sends (TurnsOnce q o) m here out turned) c.in_ok-turn_until_dispatch-in-Turned.ensures.went.0 in
    record {
      so_far = arrives_on a.machine.core.image (outside_of a) a.machine m turned _ here out i.so_far (sym c.progress.ensures ∙ c.in-Turned.is) sent;
      keeps = keeps_on i.keeps c.turn_until_dispatch.ensures.keeps;
      recent = c.turn_until_dispatch.ensures.recent ∙ i.recent;
      agree = c.turn_until_dispatch.ensures.agree;
    }

pub returns-in_err-turn_until_dispatch-in-Turned-clause-went : goal.returns-in_err-turn_until_dispatch-in-Turned-clause-went
returns-in_err-turn_until_dispatch-in-Turned-clause-went g c =
    let i = c.loop-runner.invariant in
    let m = c.loop-runner.runner.machine in
    let off = c.in_err-turn_until_dispatch-in-Turned.ensures.went in
    let cut = observed_as i.keeps
    (λ q o. Breaks (Reaches q o) m (g.W.Sink.out c.loop-runner.out) (g.W.Sink.out c.turn_until_dispatch.new.out) c.turn_until_dispatch.new.runner.machine) off.1 in
    rw c.from_residual.ensures (off.0, arrives_cut _ (outside_of c.args.runner.now) c.args.runner.now.machine m c.turn_until_dispatch.new.runner.machine _ _ _ i.so_far cut)

pub turn_until_dispatch-requires-clause-agree : goal.turn_until_dispatch-requires-clause-agree
turn_until_dispatch-requires-clause-agree g c = c.loop-runner.invariant.agree

pub turn_until_dispatch-requires-clause-ready : goal.turn_until_dispatch-requires-clause-ready
turn_until_dispatch-requires-clause-ready g c = c.loop-runner.invariant.keeps.ready

pub turn_until_dispatch-requires-clause-between : goal.turn_until_dispatch-requires-clause-between
turn_until_dispatch-requires-clause-between g c = sym c.progress.ensures ∙ c.in-Turned.is

pub returns-in_err-turn_until_dispatch-in-Turned-clause-agree : goal.returns-in_err-turn_until_dispatch-in-Turned-clause-agree
returns-in_err-turn_until_dispatch-in-Turned-clause-agree g c = c.turn_until_dispatch.ensures.agree

pub returns-in_err-turn_until_dispatch-in-Turned-clause-keeps : goal.returns-in_err-turn_until_dispatch-in-Turned-clause-keeps
returns-in_err-turn_until_dispatch-in-Turned-clause-keeps g c = keeps_on c.loop-runner.invariant.keeps c.turn_until_dispatch.ensures.keeps

pub returns-in_err-turn_until_dispatch-in-Turned-clause-recent : goal.returns-in_err-turn_until_dispatch-in-Turned-clause-recent
returns-in_err-turn_until_dispatch-in-Turned-clause-recent g c = c.turn_until_dispatch.ensures.recent ∙ c.loop-runner.invariant.recent

pub returns-in_default-clause-agree : goal.returns-in_default-clause-agree
returns-in_default-clause-agree g c = c.loop-runner.invariant.agree

pub returns-in_default-clause-keeps : goal.returns-in_default-clause-keeps
returns-in_default-clause-keeps g c = c.loop-runner.invariant.keeps

pub returns-in_default-clause-recent : goal.returns-in_default-clause-recent
returns-in_default-clause-recent g c = c.loop-runner.invariant.recent

pub returns-in_default-clause-went : goal.returns-in_default-clause-went
returns-in_default-clause-went g c = (c.loop-runner.invariant.so_far, c.progress.ensures)
