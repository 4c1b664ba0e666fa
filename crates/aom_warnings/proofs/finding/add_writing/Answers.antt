-- A place more is told.
use Rattle.aom_warnings.specs.Warnings.{OfWriting}
use Rattle.aom_warnings.proofs.Adding.{adds_more, adds_there}
use Rattle.aom_warnings.proofs.finding.add_writing.Goals as goal

pub loop-place-preserved : goal.loop-place-preserved
loop-place-preserved c =
    adds_more c.args.image.now (OfWriting c.args.number) c.loop-place.place _ _ _ c.loop-place.invariant
    (adds_there c.args.image.now (OfWriting c.args.number c.loop-place.place) _ _ _ c.writing.ensures c.in_ok-add.ensures)
