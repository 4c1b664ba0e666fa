use Rattle.std.proofs.Common.{ap, ◌∙◌}
use Rattle.aom_image.specs.Image.{Image}
use Rattle.aom_roles.specs.Shapes.{kind_of}
use Rattle.aom_machine_instructions.specs.Going.{dispatches}
use Rattle.aom_machine_instructions.proofs.RolesLemmas.{kind_found, kind_past}
use Rattle.aom_machine_instructions.proofs.going.is_dispatched.Goals as goal

pub returns-in-Some : goal.returns-in-Some
unfolding kind_of
returns-in-Some c =
    let found = c.in-Some.ensures.lookup in
    let classes = c.as_slice.ensures ∙ c.classes.ensures.value ∙ ap (λ (p : Image). p.classes) c.image.ensures in
    c.is_dispatched.ensures ∙ ap dispatches (kind_found c.args.linked.now _ _ _ _ classes c.number.ensures.value found.3.0 found.1)

pub returns-in-None : goal.returns-in-None
unfolding kind_of
returns-in-None c =
    let classes = c.as_slice.ensures ∙ c.classes.ensures.value ∙ ap (λ (p : Image). p.classes) c.image.ensures in
    ap dispatches (kind_past c.args.linked.now _ _ _ classes c.number.ensures.value c.in-None.ensures.lookup.3)
