-- All classes are told, and then all methods.
use Rattle.std.proofs.Common.{length}
use Rattle.aom_warnings.specs.Warnings.{OfClass, OfFirst, OfMethod}
use Rattle.aom_warnings.proofs.Adding.{all_added}
use Rattle.aom_warnings.proofs.Places.{of_image}
use Rattle.aom_warnings.proofs.finding.warnings.Goals as goal

pub returns : goal.returns
returns c =
    let p = c.args.image.now in
    let first = rw c.new-warnings.ensures.items at c.in_ok-add_classes.ensures in
    all_added p (OfFirst OfClass (length p.classes)) (OfFirst OfMethod (length p.methods)) _ _ first c.in_ok-add_methods.ensures (of_image p)
