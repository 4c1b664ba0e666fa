use Rattle.std.proofs.Common.{◌∙◌, length, refl, ap, arith}
use Rattle.aom_image.specs.Image.{Image}
use Rattle.aom_run.proofs.Reaching.{steps_of, went_nowhere, went, filled, stands_on, room_stays}
use Rattle.aom_run.proofs.Asked.{unnamed_all}
use Rattle.aom_run.proofs.Keeping.{image_all, image_on}
use Rattle.aom_run.proofs.Stepped.{unnamed_step}
use Rattle.aom_run.proofs.dispatches.fill.Goals as goal

pub loop-lines-init : goal.loop-lines-init
loop-lines-init g c = record {
  went = went_nowhere c.args.machine.now c.args.lines.now;
  stands = c.requires.stands;
  agree = c.requires.agree;
  kept = image_all c.args.machine.now;
  unnamed = unnamed_all _ _;
  room = refl;
  few = c.requires.room.0;
  lower = omega arith;
}

pub step_on-progress-requires : goal.step_on-progress-requires
step_on-progress-requires g c =
    let i = c.loop-lines.invariant in
    let room = i.room in
    let few = i.few in
    let enough = c.requires.room.1 in
    let messages = ap (λ (p : Image). p.header.messages) i.kept.image in
    record { agree = i.agree; stands = i.stands; room = omega (arith, room, few, enough, messages); many = omega (arith, room, enough, messages) }

pub returns-then-lines-ge-MANY_LINES-clause-kept : goal.returns-then-lines-ge-MANY_LINES-clause-kept
returns-then-lines-ge-MANY_LINES-clause-kept g c = image_on c.loop-lines.invariant.kept c.step_on-progress.ensures.image c.step_on-progress.ensures.natives

pub returns-then-lines-ge-MANY_LINES-clause-unnamed : goal.returns-then-lines-ge-MANY_LINES-clause-unnamed
returns-then-lines-ge-MANY_LINES-clause-unnamed g c =
    let i = c.loop-lines.invariant in
    unnamed_step c.args.machine.now c.loop-lines.machine c.step_on-progress.new.self i.kept.image i.unnamed i.stands c.step_on-progress.ensures.unasked

pub returns-then-lines-ge-MANY_LINES-clause-steps : goal.returns-then-lines-ge-MANY_LINES-clause-steps
returns-then-lines-ge-MANY_LINES-clause-steps g c =
    let i = c.loop-lines.invariant in
    filled c.args.machine.now c.loop-lines.machine c.step_on-progress.new.self _ _ _ _ i.went i.kept.image
    (steps_of c.loop-lines.machine c.step_on-progress.new.self _ _ _ c.step_on-progress.ensures.steps)

pub returns-then-lines-ge-MANY_LINES-clause-falls : goal.returns-then-lines-ge-MANY_LINES-clause-falls
returns-then-lines-ge-MANY_LINES-clause-falls g c = λ running.
    let falls = c.step_on-progress.ensures.falls running in
    let lower = c.loop-lines.invariant.lower in
    omega (arith, falls, lower)

pub loop-lines-preserved : goal.loop-lines-preserved
loop-lines-preserved g c =
    let i = c.loop-lines.invariant in
    let old = c.args.machine.now in
    let reported = c.args.lines.now in
    let m = c.loop-lines.machine in
    let mid = c.loop-lines.lines in
    let new = c.step_on-progress.new.self in
    let now = c.step_on-progress.new.lines in
    let progress = c.step_on-progress.result in
    let steps = (steps_of c.loop-lines.machine c.step_on-progress.new.self _ c.loop-lines.lines _ c.step_on-progress.ensures.steps) in
    let falls = c.step_on-progress.ensures.falls c.in-Running.is in
    let lower = i.lower in
    let count = ap length c.lines.ensures in
    let test = c.if-lines-ge-MANY_LINES.false in
    record {
      went = went old new reported now progress (filled old m new reported mid now progress i.went i.kept.image steps);
      stands = stands_on m new mid now progress i.stands steps;
      agree = c.step_on-progress.ensures.agree;
      kept = image_on i.kept c.step_on-progress.ensures.image c.step_on-progress.ensures.natives;
      unnamed = unnamed_step c.args.machine.now c.loop-lines.machine c.step_on-progress.new.self i.kept.image i.unnamed i.stands
          c.step_on-progress.ensures.unasked;
      room = room_stays m new mid now progress i.stands steps ∙ i.room;
      few = omega (arith, count, test);
      lower = omega (arith, falls, lower);
    }

pub returns-in_default : goal.returns-in_default
returns-in_default g c =
    let i = c.loop-lines.invariant in
    record {
      agree = c.step_on-progress.ensures.agree;
      kept = image_on i.kept c.step_on-progress.ensures.image c.step_on-progress.ensures.natives;
      unnamed = unnamed_step c.args.machine.now c.loop-lines.machine c.step_on-progress.new.self i.kept.image i.unnamed i.stands
          c.step_on-progress.ensures.unasked;
      steps = filled c.args.machine.now c.loop-lines.machine c.step_on-progress.new.self _ _ _ _ i.went i.kept.image
          (steps_of c.loop-lines.machine c.step_on-progress.new.self _ _ _ c.step_on-progress.ensures.steps);
      falls = λ is. absurd (c.in_default.not-Running is);
    }
