use Rattle.aom_image.proofs.Lengths.{length_decides}
use Rattle.aom_image.proofs.form.form_ok.Goals as goal

pub returns : goal.returns
returns c = length_decides _ (c.header_ok.ensures.0 c.if-not-header_ok.false) (c.classes_ok.ensures.0 c.if-not-classes_ok.false)
    (c.methods_ok.ensures.0 c.if-not-methods_ok.false) (c.families_ok.ensures.0 c.if-not-families_ok.false) _ c.serialized_len.ensures
