use Rattle.std.proofs.Common.{◌∙◌, ap}
use Rattle.aom_image.specs.Image.{Image}
use Rattle.aom_roles.specs.Kinds.{is_token_kind}
use Rattle.aom_rule_functions.proofs.RolesLemmas.{kind_found, kind_past}
use Rattle.aom_rule_functions.proofs.messages.is_token.Goals as goal

pub returns-in-Some : goal.returns-in-Some
returns-in-Some c =
    let found = c.in-Some.ensures.lookup in
    c.is_token_kind.ensures ∙ ap is_token_kind (kind_found _ _ _ _ _
    (c.as_slice.ensures ∙ c.classes-classes.ensures.value ∙ ap (λ (p : Image). p.classes) c.image.ensures) c.number.ensures.value found.3.0 found.1)

pub returns-in-None : goal.returns-in-None
returns-in-None c = ap is_token_kind (kind_past _ _ _ _
    (c.as_slice.ensures ∙ c.classes-classes.ensures.value ∙ ap (λ (p : Image). p.classes) c.image.ensures) c.number.ensures.value c.in-None.ensures.lookup.3)
