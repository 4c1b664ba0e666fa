use Rattle.std.proofs.Common.{◌∙◌}
use Rattle.aom_roles.proofs.Views.{gives_found, gives_past}
use Rattle.aom_roles.proofs.shapes.gives_of.Goals as goal

pub returns-in-Some : goal.returns-in-Some
returns-in-Some c =
    let found = c.in-Some.ensures.lookup in
    gives_found _ _ _ _ _ (c.as_slice.ensures ∙ c.methods-methods.ensures.value) c.number.ensures.value found.3.0 found.1

pub returns-in-None : goal.returns-in-None
returns-in-None c = gives_past _ _ _ _ (c.as_slice.ensures ∙ c.methods-methods.ensures.value) c.number.ensures.value c.in-None.ensures.lookup.3
