-- A field more is told.
use Rattle.std.proofs.Common.{◌≡◌, List, ap, arith, length}
use Rattle.aom_image.specs.declared.method.Thing.{Thing}
use Rattle.aom_image.specs.Views.{fields_of}
use Rattle.aom_warnings.specs.Warnings.{OfField}
use Rattle.aom_warnings.proofs.Adding.{adds_more, adds_there}
use Rattle.aom_warnings.proofs.Places.{few_fields}
use Rattle.aom_warnings.proofs.finding.add_fields.Goals as goal

pub field_index-requires : goal.field_index-requires
field_index-requires c =
    let count : length c.fields_of-field-end.result.now ≡ length (fields_of c.args.image.now c.args.class) = ap (λ (xs : List Thing). length xs) c.fields_of-field-end.ensures in
    omega (arith, few_fields c.args.image.now c.args.class c.classes-classes.ensures.well_formed, c.loop-field-test.true, count)

pub loop-field-preserved : goal.loop-field-preserved
loop-field-preserved c =
    let told = rw c.field_index.ensures at c.read.ensures in
    adds_more c.args.image.now (OfField c.args.class) c.loop-field.field _ _ _ c.loop-field.invariant
    (adds_there c.args.image.now (OfField c.args.class c.loop-field.field) _ _ _ told c.in_ok-add.ensures)
