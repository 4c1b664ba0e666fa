use Rattle.std.proofs.Common.{◌∙◌, subst, sym}
use Rattle.aom_link_conditions.specs.Calls.{CallsOrdered, RunsBelow}
use Rattle.aom_link_conditions.specs.Places.{AtInstruction, IsThere}
use Rattle.aom_link_conditions.proofs.Places.{instruction_found, read_first}
use Rattle.aom_link_conditions.proofs.call_order.call_place.Goals as goal

pub returns-in-Some : goal.returns-in-Some
returns-in-Some c =
    let p = c.args.image.now in
    let same = c.as_slice-methods.ensures ∙ c.methods.ensures.value in
    let found = read_first (CallsOrdered p) _ _ _ _ _ same c.first_unordered.ensures c.in-Some.is c.index-methods-number.is in
    subst (λ x. IsThere p x × AtInstruction p (CallsOrdered p) (λ m d. RunsBelow p m d.class) x) (sym c.in_method.ensures)
    (instruction_found p (CallsOrdered p) (λ m d. RunsBelow p m d.class) _ _ _ found.0 found.1 c.first_early-place.ensures)
