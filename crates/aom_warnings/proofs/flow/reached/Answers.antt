-- The first place is reached, and each to which a way leads out; at the end no way leads out.
use Rattle.std.proofs.Common.{◌∙◌, length}
use Rattle.std.proofs.lemmas.List.{length-replicate, length-set}
use Rattle.aom_warnings.proofs.Ways.{all_reached, fewer_left, first_marked, first_sound, one_more, out_reached, still_first}
use Rattle.aom_warnings.proofs.flow.reached.Goals as goal

pub loop-next-init : goal.loop-next-init
loop-next-init c =
    let n = length c.args.code.now in
    rw (c.mark.ensures, c.in_ok-marks.ensures) (record {
      size = length-set _ 0 _ ∙ length-replicate n _;
      first = first_marked n c.requires;
      sound = first_sound c.args.code.now n;
    })

pub loop-next-smaller : goal.loop-next-smaller
loop-next-smaller c =
    let out = rw c.deref.ensures.value at c.in-Some.ensures in
    rw c.mark-in-Some.ensures (fewer_left c.loop-next.marks.items c.in-Some.next out.there out.unmarked)

pub loop-next-preserved : goal.loop-next-preserved
loop-next-preserved c =
    let out = rw c.deref.ensures.value at c.in-Some.ensures in
    let marks = c.loop-next.marks.items in
    let next = c.in-Some.next in
    rw c.mark-in-Some.ensures (record {
      size = length-set marks next _ ∙ c.loop-next.invariant.size;
      first = still_first marks next c.loop-next.invariant.first;
      sound = one_more c.args.code.now marks next c.loop-next.invariant.sound (out_reached c.args.code.now marks next c.loop-next.invariant.sound out);
    })

pub returns-clause-marks : goal.returns-clause-marks
returns-clause-marks c =
    let none = rw c.deref.ensures.value at c.in_default.ensures in
    all_reached c.args.code.now c.loop-next.marks.items c.loop-next.invariant.size c.loop-next.invariant.first none c.loop-next.invariant.sound
