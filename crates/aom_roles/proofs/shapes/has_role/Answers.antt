use Rattle.std.proofs.Common.{◌∙◌}
use Rattle.aom_roles.proofs.Views.{role_found, role_past}
use Rattle.aom_roles.proofs.shapes.has_role.Goals as goal

pub returns-in-Some : goal.returns-in-Some
returns-in-Some c =
    let found = c.in-Some.ensures.lookup in
    c.same_role.ensures ∙ role_found _ _ _ _ c.args.role _ (c.as_slice.ensures ∙ c.methods-methods.ensures.value) c.number.ensures.value found.3.0 found.1

pub returns-in-None : goal.returns-in-None
returns-in-None c = role_past _ _ _ _ c.args.role (c.as_slice.ensures ∙ c.methods-methods.ensures.value) c.number.ensures.value c.in-None.ensures.lookup.3
