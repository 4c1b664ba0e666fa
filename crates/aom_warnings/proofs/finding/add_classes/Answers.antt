-- A class more is told.
use Rattle.aom_warnings.specs.Warnings.{OfClass}
use Rattle.aom_warnings.proofs.Adding.{adds_more}
use Rattle.aom_warnings.proofs.finding.add_classes.Goals as goal

pub loop-class-preserved : goal.loop-class-preserved
loop-class-preserved c =
    let told = rw c.class_number.ensures at c.in_ok-add_class.ensures in
    adds_more c.args.image.now OfClass c.loop-class.class _ _ _ c.loop-class.invariant told
