use Rattle.std.proofs.Common.{◌∙◌}
use Rattle.aom_roles.proofs.Views.{kind_found, kind_past}
use Rattle.aom_roles.proofs.class_order.kind_at.Goals as goal

pub returns-in-Some : goal.returns-in-Some
returns-in-Some c =
    let found = c.in-Some.ensures.lookup in
    kind_found _ _ _ _ _ (c.as_slice.ensures ∙ c.classes-classes.ensures.value) c.number.ensures.value found.3.0 found.1

pub returns-in-None : goal.returns-in-None
returns-in-None c = kind_past _ _ _ _ (c.as_slice.ensures ∙ c.classes-classes.ensures.value) c.number.ensures.value c.in-None.ensures.lookup.3
