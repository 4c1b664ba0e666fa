use Rattle.std.proofs.Common.{ap, arith, length, refl, subst, sym, take, ◌+◌, ◌∙◌, ◌≤◌}
use Rattle.aom_image.specs.Image.{Image}
use Rattle.aom_machine_state.specs.LineBuffer.{LineBuffer, step_lines}
use Rattle.aom_transcript.specs.Naming.{named_by, text_by}
use Rattle.aom_transcript.specs.Sinks.{after}
use Rattle.aom_run.specs.Beside.{KeepsUnnamed}
use Rattle.aom_run.proofs.Asked.{unnamed_all, unnamed_on}
use Rattle.aom_run.proofs.Keeping.{image_all, image_on}
use Rattle.aom_run.proofs.Underway.{cleared_same, cut_off, is_sent, still_stands, underway, underway_still}
use Rattle.aom_run.proofs.dispatches.run_dispatch.Goals as goal

pub loop-progress-init : goal.loop-progress-init
loop-progress-init g c = record {
  underway = underway (named_by c.args.names) c.args.machine.now c.args.lines.now (g.W.Sink.out c.args.out.now);
  stands = c.requires.stands;
  agree = c.requires.agree;
  kept = image_all c.args.machine.now;
  unnamed = unnamed_all _ _;
  same = refl;
  few = c.requires.room.0;
}

pub fill-progress-requires : goal.fill-progress-requires
fill-progress-requires g c =
    let i = c.loop-progress.invariant in
    record {
      agree = i.agree;
      stands = i.stands;
      room = (
        i.few,
        subst (λ (t : LineBuffer). 64 + step_lines c.loop-progress.machine.core.image.header.messages
            ≤ t.room) (sym i.same) (subst (λ (p : Image). 64 + step_lines p.header.messages ≤ c.args.lines.now.room) (sym i.kept.image) c.requires.room.1),
      );
    }

pub returns-then-has_failed-clause-kept : goal.returns-then-has_failed-clause-kept
returns-then-has_failed-clause-kept g c = let e = c.fill-progress.ensures.kept in image_on c.loop-progress.invariant.kept e.image e.natives

pub returns-then-has_failed-clause-unnamed : goal.returns-then-has_failed-clause-unnamed
returns-then-has_failed-clause-unnamed g c = let i = c.loop-progress.invariant in unnamed_on i.unnamed (subst (λ p.
    KeepsUnnamed p c.loop-progress.machine.natives.slots.items c.fill-progress.new.machine.natives.slots.items) i.kept.image c.fill-progress.ensures.unnamed)

pub returns-then-has_failed-clause-none : goal.returns-then-has_failed-clause-none
returns-then-has_failed-clause-none g c =
    let i = c.loop-progress.invariant in
    let sent = c.put_lines.ensures.prefix in (
      sym c.has_failed.ensures ∙ c.if-has_failed.true,
      cut_off (named_by c.args.names) c.args.machine.now
          c.loop-progress.machine c.fill-progress.new.machine c.args.lines.now c.loop-progress.lines c.fill-progress.new.lines (g.W.Sink.out c.args.out.now)
          (g.W.Sink.out c.loop-progress.out) c.fill-progress.result i.underway i.kept.image i.same c.fill-progress.ensures.steps _ sent.0
          (sent.1 ∙ ap (λ ls. after (g.W.Sink.out c.loop-progress.out) (take sent.0 (text_by (named_by c.args.names) ls))) c.lines.ensures),
    )

pub loop-progress-smaller : goal.loop-progress-smaller
loop-progress-smaller g c = c.fill-progress.ensures.falls c.in-Running.is

pub loop-progress-preserved : goal.loop-progress-preserved
loop-progress-preserved g c =
    let i = c.loop-progress.invariant in
    let out = c.put_lines.ensures.whole (sym c.has_failed.ensures ∙ c.if-has_failed.false)
    ∙ ap (λ ls. after (g.W.Sink.out c.loop-progress.out) (text_by (named_by c.args.names) ls)) c.lines.ensures in
    let none = ap (λ (t : LineBuffer). length t.lines) c.clear.ensures in
    record {
      underway = underway_still (named_by c.args.names) c.args.machine.now
          c.loop-progress.machine c.fill-progress.new.machine c.args.lines.now c.loop-progress.lines c.fill-progress.new.lines (g.W.Sink.out c.args.out.now)
          (g.W.Sink.out c.loop-progress.out) c.fill-progress.result i.underway i.kept.image i.same c.fill-progress.ensures.steps _ _ c.clear.ensures out;
      stands = still_stands c.loop-progress.machine c.fill-progress.new.machine c.loop-progress.lines c.fill-progress.new.lines c.fill-progress.result i.stands
          c.fill-progress.ensures.steps;
      agree = c.fill-progress.ensures.agree;
      kept = image_on i.kept c.fill-progress.ensures.kept.image c.fill-progress.ensures.kept.natives;
      unnamed = unnamed_on i.unnamed (subst (λ p. KeepsUnnamed p c.loop-progress.machine.natives.slots.items c.fill-progress.new.machine.natives.slots.items)
          i.kept.image c.fill-progress.ensures.unnamed);
      same = cleared_same c.loop-progress.machine c.fill-progress.new.machine c.args.lines.now
          c.loop-progress.lines c.fill-progress.new.lines c.clear.new.self c.fill-progress.result i.same i.stands c.fill-progress.ensures.steps c.clear.ensures;
      few = omega (arith, none);
    }

pub returns-in_default : goal.returns-in_default
returns-in_default g c =
    let i = c.loop-progress.invariant in
    let out = c.put_lines.ensures.whole (sym c.has_failed.ensures ∙ c.if-has_failed.false)
    ∙ ap (λ ls. after (g.W.Sink.out c.loop-progress.out) (text_by (named_by c.args.names) ls)) c.lines.ensures in
    record {
      agree = c.fill-progress.ensures.agree;
      kept = image_on i.kept c.fill-progress.ensures.kept.image c.fill-progress.ensures.kept.natives;
      unnamed = unnamed_on i.unnamed (subst (λ p. KeepsUnnamed p c.loop-progress.machine.natives.slots.items c.fill-progress.new.machine.natives.slots.items)
          i.kept.image c.fill-progress.ensures.unnamed);
      none = tt;
      some = is_sent (named_by c.args.names) c.args.machine.now c.loop-progress.machine c.fill-progress.new.machine
          c.args.lines.now c.loop-progress.lines c.fill-progress.new.lines (g.W.Sink.out c.args.out.now) (g.W.Sink.out c.loop-progress.out)
          c.fill-progress.result i.underway i.kept.image i.same c.fill-progress.ensures.steps _ _ c.clear.ensures out c.in_default.not-Running;
    }
