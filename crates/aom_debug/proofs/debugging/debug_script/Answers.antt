-- The session is one from the boot state of an accepted image. That its machine did not boot is a fault.
use Rattle.std.proofs.Common.{length, refl}
use Rattle.aom_commands.specs.Headline.{Sent}
use Rattle.aom_commands.specs.Unreported.{Unreported}
use Rattle.aom_debug.proofs.CommandsLemmas.{acceptable_of}
use Rattle.aom_debug.specs.SessionLoop.{Given}
use Rattle.aom_debug.specs.Answers.{DebugAnswersBy}
use Rattle.aom_debug.proofs.Statuses.{broken_of, by_done, held_of, unbegun}
use Rattle.aom_debug.proofs.debugging.debug_script.Goals as goal

pub returns-in-Err : goal.returns-in-Err
returns-in-Err g c = λ bytes text serialized denotes errors status reported. unbegun c.args.names bytes text c.args.limit
    (length c.args.boxes.items) c.args.reads c.args.accepted.now c.args.script (acceptable_of c.facts.ensures.linked c.facts.ensures.typed
    c.facts.ensures.budgets c.facts.ensures.within c.facts.ensures.high) serialized denotes _ _ errors c.in-Err.fault status c.in-Err.ensures.err refl refl reported

pub returns-in-Ok : goal.returns-in-Ok
returns-in-Ok g c =
    let given : Given = record {
      before = g.R.Reader.given c.args.reader.now;
      now = g.R.Reader.given c.run_session-reported.new.reader;
      ended = g.R.Reader.ended c.run_session-reported.new.reader;
      had_failed = g.R.Reader.failed c.args.reader.now;
      failed = g.R.Reader.failed c.run_session-reported.new.reader;
    } in
    let out : Sent = record { before = g.W.Sink.out c.args.out.now; now = g.W.Sink.out c.run_session-reported.new.out; failed = g.W.Sink.failed c.run_session-reported.new.out } in
    let natives = length c.args.boxes.items in
    let acceptable = acceptable_of c.facts.ensures.linked c.facts.ensures.typed c.facts.ensures.budgets c.facts.ensures.within c.facts.ensures.high in
    let d = c.in-Ok.debugger in
    let begun = c.in-Ok.ensures.begun in
    λ bytes text serialized denotes. by_done (Unreported (DebugAnswersBy c.args.names bytes text c.args.limit natives c.args.reads given out))
    c.run_session-reported.result c.done.result c.done.ensures.ok c.done.ensures.err c.run_session-reported.ensures.ok c.run_session-reported.ensures.err
    (λ holds errors silent. held_of c.args.names bytes text c.args.limit natives c.args.reads c.args.accepted.now
    c.args.script acceptable serialized denotes given out errors d begun holds silent) (λ fault why errors status reported. broken_of c.args.names bytes
    text c.args.limit natives c.args.reads c.args.accepted.now c.args.script acceptable serialized denotes given out errors d begun fault status why reported)
