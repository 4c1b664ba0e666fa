use Rattle.std.proofs.Common.{Some, ap, arith, length, refl, sym, [], ◌∙◌}
use Rattle.aom_image.specs.Image.{Image}
use Rattle.aom_machine_state.specs.LineBuffer.{LineBuffer}
use Rattle.aom_semantics.specs.World.{boot_state}
use Rattle.aom_run.specs.Calls.{Stands, natives_of}
use Rattle.aom_transcript.specs.Naming.{named_by}
use Rattle.aom_run.specs.Turns.{observing}
use Rattle.aom_run.proofs.Running.{after_turns, cut, ends, fewer_left_by, given_up, sent_far, sent_on, sent_rests, sent_buffer, starts, turned_end, turned_few}
use Rattle.aom_run.proofs.Running.{turned_now, turned_same, turned_stands, turns_as}
use Rattle.aom_run.proofs.runs.run_lines.Goals as goal

pub run_dispatch-requires : goal.run_dispatch-requires
run_dispatch-requires g c =
    let none = ap (λ (t : LineBuffer). length t.lines) c.clear.ensures in
    let kept = ap (λ (t : LineBuffer). t.room) c.clear.ensures in
    let room = c.requires.room in
    record { agree = c.requires.agree; stands = (boot_state c.args.machine.now.core.image, c.requires.fresh); room = (omega (arith, none), omega (arith, kept, room)) }

pub returns-in_err-progress-clause-none : goal.returns-in_err-progress-clause-none
returns-in_err-progress-clause-none g c =
    let outside = observing c.args.lines.now.refused c.args.limit (natives_of c.args.machine.now) c.args.events.now in
    let out = g.W.Sink.out c.args.out.now in
    let far = starts outside out c.args.machine.now c.clear.new.self.lines (ap (λ (t : LineBuffer). t.lines) c.clear.ensures) c.requires.fresh in
    let off = c.in_err-progress.ensures.none in
    let fits = c.ranges.limit.fits in
    given_up c.from_residual.result (
      off.0,
      cut _ outside out out _ c.args.machine.now c.run_dispatch.new.machine c.clear.new.self c.run_dispatch.new.lines far refl
          (ap (λ (t : LineBuffer). t.refused) c.clear.ensures) (omega (arith, fits)) c.run_dispatch.ensures.kept.image off.1,
    )

pub loop-progress-init : goal.loop-progress-init
loop-progress-init g c =
    let outside = observing c.args.lines.now.refused c.args.limit (natives_of c.args.machine.now) c.args.events.now in
    let out = g.W.Sink.out c.args.out.now in
    let far = starts outside out c.args.machine.now c.clear.new.self.lines (ap (λ (t : LineBuffer). t.lines) c.clear.ensures) c.requires.fresh in
    let sent = c.in_ok-progress.ensures.some in
    let stands : Stands c.args.machine.now = (boot_state c.args.machine.now.core.image, c.requires.fresh) in
    record {
      so_far = sent_on _ outside out out _ c.args.machine.now c.run_dispatch.new.machine c.clear.new.self c.run_dispatch.new.lines far refl
          (ap (λ (t : LineBuffer). t.refused) c.clear.ensures) _ sent;
      agree = c.run_dispatch.ensures.agree;
      image = c.run_dispatch.ensures.kept.image;
      natives = c.run_dispatch.ensures.kept.natives;
      lines = sent_buffer (named_by c.args.names) c.args.machine.now c.run_dispatch.new.machine _ _ _ _ _ stands sent
          ∙ ap (λ (t : LineBuffer). record t { lines = [] }) c.clear.ensures;
      as_far = sent_far (named_by c.args.names) c.args.machine.now c.run_dispatch.new.machine _ _ _ _ _ stands sent;
      rests = sent_rests (named_by c.args.names) c.args.machine.now c.run_dispatch.new.machine _ _ _ _ _ stands sent;
    }

pub returns-in-Ended : goal.returns-in-Ended
returns-in-Ended g c =
    let i = c.loop-progress.invariant in
    record {
      agree = i.agree;
      image = i.image;
      none = tt;
      some = ends _ (observing c.args.lines.now.refused c.args.limit (natives_of c.args.machine.now) c.args.events.now)
          (g.W.Sink.out c.args.out.now) (g.W.Sink.out c.loop-progress.out) (g.W.Sink.out c.loop-progress.out) c.loop-progress.machine c.loop-progress.machine
          c.loop-progress.lines c.loop-progress.lines i.so_far i.image (ap (λ (t : LineBuffer). t.lines) i.lines) c.in-Ended.ending (sym c.in-Ended.is ∙ i.as_far);
    }

pub take_turns-requires : goal.take_turns-requires
take_turns-requires g c =
    let i = c.loop-progress.invariant in
    let none = ap (λ (t : LineBuffer). length t.lines) i.lines in
    let kept = ap (λ (t : LineBuffer). t.room) i.lines in
    let room = c.requires.room in
    record {
      agree = i.agree;
      stands = (i.so_far.state, i.so_far.stands);
      between = sym i.as_far ∙ turned_now c.loop-progress.progress i.rests c.in_default.not-Ended;
      ranged = c.requires.ranged;
      room = omega (arith, none, kept, room);
    }

pub returns-in-Some : goal.returns-in-Some
returns-in-Some g c =
    let i = c.loop-progress.invariant in
    let same = ap (λ (t : LineBuffer). t.refused) i.lines in
    record {
      agree = c.take_turns.ensures.agree;
      image = c.take_turns.ensures.image ∙ i.image;
      none = tt;
      some = turned_end _ (observing c.args.lines.now.refused c.args.limit (natives_of c.args.machine.now) c.args.events.now)
          (g.W.Sink.out c.args.out.now) (g.W.Sink.out c.loop-progress.out)
          (g.W.Sink.out c.loop-progress.out) c.loop-progress.machine c.take_turns.new.machine c.loop-progress.lines c.take_turns.new.lines i.so_far i.image
          (ap (λ (t : LineBuffer). t.lines) i.lines) c.in-Some.ending (turns_as c.loop-progress.machine c.take_turns.new.machine c.args.limit c.args.events.now
          (Some c.in-Some.ending) c.loop-progress.lines c.take_turns.new.lines same i.natives c.in-Some.ensures.turns);
    }

pub run_dispatch-requires-in-loop-progress : goal.run_dispatch-requires-in-loop-progress
run_dispatch-requires-in-loop-progress g c =
    let i = c.loop-progress.invariant in
    let outside = observing c.loop-progress.lines.refused c.args.limit (natives_of c.loop-progress.machine) c.args.events.now in
    let stands : Stands c.loop-progress.machine = (i.so_far.state, i.so_far.stands) in
    let turns = c.in_default-take_turns.ensures.turns in
    let messages = ap (λ (p : Image). p.header.messages) (c.take_turns.ensures.image ∙ i.image) in
    let few = turned_few c.loop-progress.machine c.take_turns.new.machine outside _ _ stands turns (ap (λ (t : LineBuffer). t.lines) i.lines) in
    let kept = ap (λ (t : LineBuffer). t.room) (turned_same c.loop-progress.machine c.take_turns.new.machine outside _ _ stands turns
    ∙ ap (λ (t : LineBuffer). record t { lines = c.take_turns.new.lines.lines }) i.lines) in
    let room = c.requires.room in
    record {
      agree = c.take_turns.ensures.agree;
      stands = turned_stands c.loop-progress.machine c.take_turns.new.machine outside c.loop-progress.lines c.take_turns.new.lines stands turns;
      room = (omega (arith, few), omega (arith, kept, room, messages));
    }

pub returns-in_err-progress-2-clause-image : goal.returns-in_err-progress-2-clause-image
returns-in_err-progress-2-clause-image g c = c.run_dispatch-in-loop-progress.ensures.kept.image ∙ c.take_turns.ensures.image ∙ c.loop-progress.invariant.image

pub returns-in_err-progress-2-clause-none : goal.returns-in_err-progress-2-clause-none
returns-in_err-progress-2-clause-none g c =
    let i = c.loop-progress.invariant in
    let image = c.take_turns.ensures.image ∙ i.image in
    let turned = after_turns _ c.args.events.now c.args.limit
    (g.W.Sink.out c.args.out.now) (g.W.Sink.out c.loop-progress.out) c.loop-progress.machine c.take_turns.new.machine
    c.loop-progress.lines c.take_turns.new.lines c.args.lines.now i.so_far i.image i.lines i.natives c.in_default-take_turns.ensures.turns in
    let off = c.in_err-progress-2.ensures.none in
    let fits = c.ranges.limit.fits in
    given_up c.from_residual-in_err-progress-2.result (
      off.0,
      cut _ _ _ _ _ c.take_turns.new.machine c.run_dispatch-in-loop-progress.new.machine c.take_turns.new.lines c.run_dispatch-in-loop-progress.new.lines
          turned.0 image (ap (λ (t : LineBuffer). t.refused) turned.1) (omega (arith, fits)) (c.run_dispatch-in-loop-progress.ensures.kept.image ∙ image) off.1,
    )

pub loop-progress-smaller : goal.loop-progress-smaller
loop-progress-smaller g c =
    let i = c.loop-progress.invariant in
    let fits = c.ranges.limit.fits in
    fewer_left_by (named_by c.args.names) _ (omega (arith, fits)) c.loop-progress.machine
    c.take_turns.new.machine c.run_dispatch-in-loop-progress.new.machine _ _ c.run_dispatch-in-loop-progress.new.lines _ _ _ (i.so_far.state, i.so_far.stands)
    (sym i.as_far ∙ turned_now c.loop-progress.progress i.rests c.in_default.not-Ended) c.in_default-take_turns.ensures.turns c.in_ok-progress-2.ensures.some

pub loop-progress-preserved : goal.loop-progress-preserved
loop-progress-preserved g c =
    let i = c.loop-progress.invariant in
    let m = c.take_turns.new.machine in
    let new = c.run_dispatch-in-loop-progress.new.machine in
    let image = c.take_turns.ensures.image ∙ i.image in
    let turned = after_turns _ c.args.events.now c.args.limit
    (g.W.Sink.out c.args.out.now) (g.W.Sink.out c.loop-progress.out) c.loop-progress.machine c.take_turns.new.machine
    c.loop-progress.lines c.take_turns.new.lines c.args.lines.now i.so_far i.image i.lines i.natives c.in_default-take_turns.ensures.turns in
    let sent = c.in_ok-progress-2.ensures.some in
    record {
      so_far = sent_on _ _ _ _ _ m new c.take_turns.new.lines c.run_dispatch-in-loop-progress.new.lines turned.0 image
          (ap (λ (t : LineBuffer). t.refused) turned.1) _ sent;
      agree = c.run_dispatch-in-loop-progress.ensures.agree;
      image = c.run_dispatch-in-loop-progress.ensures.kept.image ∙ image;
      natives = c.run_dispatch-in-loop-progress.ensures.kept.natives ∙ c.take_turns.ensures.natives ∙ i.natives;
      lines = sent_buffer (named_by c.args.names) m new _ _ _ _ _ turned.2 sent ∙ ap (λ (t : LineBuffer). record t { lines = [] }) turned.1;
      as_far = sent_far (named_by c.args.names) m new _ _ _ _ _ turned.2 sent;
      rests = sent_rests (named_by c.args.names) m new _ _ _ _ _ turned.2 sent;
    }
