use Rattle.std.proofs.Common.{◌∙◌, ap}
use Rattle.aom_image.specs.Image.{Image}
use Rattle.aom_budget.proofs.Classes.{class_found, class_past}
use Rattle.aom_budget.proofs.callees.class_of.Goals as goal

pub returns-in-Some : goal.returns-in-Some
returns-in-Some c =
    let found = c.in-Some.ensures.lookup in
    class_found _ _ _ _ _ (c.as_slice.ensures ∙ c.methods-methods.ensures.value ∙ ap (λ (p : Image). p.methods) c.image.ensures)
    c.number.ensures.value found.3.0 found.1

pub returns-in-None : goal.returns-in-None
returns-in-None c = class_past _ _ _ _ (c.as_slice.ensures ∙ c.methods-methods.ensures.value ∙ ap (λ (p : Image). p.methods) c.image.ensures)
    c.number.ensures.value c.in-None.ensures.lookup.3
