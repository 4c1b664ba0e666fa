-- A place more is told.
use Rattle.std.proofs.Common.{◌≡◌, arith, length}
use Rattle.aom_warnings.specs.Warnings.{OfReach}
use Rattle.aom_warnings.proofs.Adding.{adds_more, adds_there}
use Rattle.aom_warnings.proofs.finding.add_reach.Goals as goal

pub loop-place-preserved : goal.loop-place-preserved
loop-place-preserved c =
    adds_more c.args.image.now (OfReach c.args.number) c.loop-place.place _ _ _ c.loop-place.invariant
    (adds_there c.args.image.now (OfReach c.args.number c.loop-place.place) _ _ _ c.reach.ensures c.in_ok-add.ensures)

pub returns : goal.returns
returns c =
    let all : c.loop-place.place ≡ length c.args.method.now.code = omega (arith, c.loop-place-test.false, c.loop-place.auto.place-end, c.len-place-end.ensures) in
    rw all at c.loop-place.invariant
