-- The lead, the parts, the rest and the end of the line.
use Rattle.std.proofs.Common.{◌∙◌, ◌++◌, [], ◌∷◌, ap, codes}
use Rattle.std.proofs.lemmas.Result.{IfOk-weaker}
use Rattle.aom_diagnostics.proofs.Parts.{both_out}
use Rattle.aom_diagnostics.specs.Known.{any_known, register_parts, registers_line, rest_words}
use Rattle.aom_diagnostics.proofs.known.write_registers.Goals as goal

pub returns : goal.returns
unfolding registers_line
returns c =
    let sh = c.args.shape.now in
    let rest = rest_words (any_known sh) in
    IfOk-weaker c.words-2.result _ _
    (λ done put.
    both_out c.args.out.now (codes "Known of registers:") (register_parts c.args.names.now sh ++ (rest ++ 10 ∷ [])) c.words.new.self c.words-2.new.self c.in_ok-words.ensures
    (both_out c.words.new.self (register_parts c.args.names.now sh) (rest ++ 10 ∷ []) c.write_register_parts.new.out c.words-2.new.self c.in_ok-write_register_parts.ensures
    (both_out c.write_register_parts.new.out rest (10 ∷ []) c.write_rest.new.out c.words-2.new.self
    (c.in_ok-write_rest.ensures ∙ ap (λ b. c.write_register_parts.new.out ++ rest_words b) c.any_known.ensures) put)))
    c.words-2.ensures
