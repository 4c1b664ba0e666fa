use Rattle.std.proofs.Common.{◌∙◌, arith}
use Rattle.aom_link_conditions.proofs.Views.{fields_found, fields_past}
use Rattle.aom_link_conditions.proofs.call_order.fields_of.Goals as goal

pub overflow_cast-number : goal.overflow_cast-number
overflow_cast-number c = omega arith

pub returns-in-Some : goal.returns-in-Some
returns-in-Some c =
    let found = c.in-Some.ensures.lookup in
    c.as_slice-in-Some.ensures ∙ fields_found _ _ _ _ _ (c.as_slice.ensures ∙ c.classes-classes.ensures.value) c.number.ensures.value found.3.0 found.1

pub returns-in-None : goal.returns-in-None
returns-in-None c = fields_past _ _ _ _ (c.as_slice.ensures ∙ c.classes-classes.ensures.value) c.number.ensures.value c.in-None.ensures.lookup.3
