-- The method at hand is the one that has that number.
use Rattle.std.proofs.Common.{◌≡◌, ◌∙◌, ◌++◌, Some, ap, append_assoc, slice_get, sym}
use Rattle.std.proofs.lemmas.Option.{slice_get-get_or}
use Rattle.std.proofs.lemmas.Result.{IfOk-weaker}
use Rattle.aom_diagnostics.specs.Places.{heading_text, instruction_text, place_text}
use Rattle.aom_diagnostics.proofs.place.write_method.Goals as goal

pub returns-in_ok-write_heading-in-Some : goal.returns-in_ok-write_heading-in-Some
returns-in_ok-write_heading-in-Some c =
    let found = rw (c.as_slice.ensures, c.methods.ensures.value, c.number.ensures.value) at c.in-Some.ensures.lookup in
    let method = c.in-Some.method.now in
    let there : slice_get c.args.image.now.methods c.args.number ≡ Some method = slice_get-get_or c.args.image.now.methods c.args.number method found.3.0
    ∙ ap (λ m. Some m) (sym found.1) in
    IfOk-weaker c.write_instruction.result _ _ (λ r written.
    written ∙ ap (λ t. t ++ instruction_text c.args.place method) c.in_ok-write_heading-in-Some.ensures
    ∙ append_assoc c.args.out.now (heading_text c.args.number method) (instruction_text c.args.place method)
    ∙ ap (λ o. c.args.out.now ++ place_text c.args.number c.args.place o) (sym there)
    ) c.write_instruction.ensures
