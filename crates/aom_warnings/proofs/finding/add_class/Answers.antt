-- A class is told, and its fields.
use Rattle.std.proofs.Common.{◌≡◌, length}
use Rattle.aom_image.specs.Views.{fields_of}
use Rattle.aom_warnings.specs.Warnings.{OfClass, OfField, OfFirst}
use Rattle.aom_warnings.specs.declared.warning.Warning.TheVariants.{NeverMade}
use Rattle.aom_warnings.proofs.Adding.{adds_both, adds_there}
use Rattle.aom_warnings.proofs.Places.{of_class}
use Rattle.aom_warnings.proofs.finding.add_class.Goals as goal

pub returns : goal.returns
returns c =
    let p = c.args.image.now in
    let k = c.args.class in
    adds_both p (λ w. w ≡ NeverMade k) (OfFirst (OfField k) (length (fields_of p k))) (OfClass k) _ _ _
    (adds_there p (λ w. w ≡ NeverMade k) _ _ _ c.made.ensures c.in_ok-add.ensures) c.in_ok-add_fields.ensures (of_class p k)
