use Rattle.std.proofs.Common.{◌≡◌, List, subst, sym, true}
use Rattle.std.specs.Prelude.{All}
use Rattle.aom_run.specs.Calls.{EventInRange, natives_of}
use Rattle.aom_transcript.specs.declared.event.TimedEvent.{TimedEvent}
use Rattle.aom_run.specs.Runs.{CutShort, Ended}
use Rattle.aom_transcript.specs.Naming.{named_by}
use Rattle.aom_run.specs.Turns.{observing}
use Rattle.aom_run.proofs.Gets.{ranged}
use Rattle.aom_run.proofs.Running.{ran}
use Rattle.aom_run.proofs.runs.run_named.Goals as goal

pub run_lines-requires-clause-ranged : goal.run_lines-requires-clause-ranged
run_lines-requires-clause-ranged g c = subst (λ (es : List TimedEvent). All (λ e. EventInRange e.event) es) (sym c.events.ensures) (ranged _ c.requires.timely)

pub returns-in-Some-clause-ran : goal.returns-in-Some-clause-ran
returns-in-Some-clause-ran g c =
    let finish = c.finish.ensures in
    let run = subst (λ (es : List TimedEvent). Ended
    (named_by c.args.names) c.args.machine.now.core.image (observing c.args.lines.now.refused c.args.limit (natives_of c.args.machine.now) es) c.in-Some.ending
    (g.W.Sink.out c.args.out.now) (g.W.Sink.out c.run_lines.new.out) c.run_lines.new.machine) c.events.ensures c.in-Some.ensures.some in
    ran c.args.machine.now c.run_lines.new.machine _ _ _ _ _ _ run c.finish.result finish.fault finish.outcome finish.prefix finish.whole

pub returns-in-None-clause-ran : goal.returns-in-None-clause-ran
returns-in-None-clause-ran g c =
    let cut = λ (es : List TimedEvent). (g.W.Sink.failed c.run_lines.new.out ≡ true) × CutShort (named_by c.args.names) c.args.machine.now.core.image
    (observing c.args.lines.now.refused c.args.limit (natives_of c.args.machine.now) es) (g.W.Sink.out c.args.out.now) (g.W.Sink.out c.run_lines.new.out) in
    subst cut c.events.ensures c.in-None.ensures.none

pub returns-in-None-clause-determined : goal.returns-in-None-clause-determined
returns-in-None-clause-determined g c =
    c.text_is_determined.ensures _ c.requires.fresh.stands.typing _ c.requires.fresh.stands.sound.wired c.requires.fresh.stands.sound.typed

pub returns-in-Some-clause-determined : goal.returns-in-Some-clause-determined
returns-in-Some-clause-determined g c =
    c.text_is_determined.ensures _ c.requires.fresh.stands.typing _ c.requires.fresh.stands.sound.wired c.requires.fresh.stands.sound.typed
