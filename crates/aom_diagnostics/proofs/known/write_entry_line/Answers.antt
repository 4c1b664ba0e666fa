-- The lead, the parts, whether there are more, and the end of the line.
use Rattle.std.proofs.Common.{◌∙◌, ◌++◌, [], ◌∷◌, ap, codes, length}
use Rattle.std.proofs.lemmas.Result.{IfOk-weaker}
use Rattle.aom_diagnostics.proofs.Parts.{both_out}
use Rattle.aom_diagnostics.specs.Known.{entry_line, entry_parts, more_words}
use Rattle.aom_diagnostics.proofs.known.write_entry_line.Goals as goal

pub returns : goal.returns
unfolding entry_line
returns c =
    let parts = entry_parts c.args.names.now c.args.shape.now in
    let more = more_words (length c.args.shape.now.entries) in
    IfOk-weaker c.words-2.result _ _
    (λ done put.
    both_out c.args.out.now (codes "Known of cleanup entries:") (parts ++ (more ++ 10 ∷ [])) c.words.new.self c.words-2.new.self c.in_ok-words.ensures
    (both_out c.words.new.self parts (more ++ 10 ∷ []) c.write_entry_parts.new.out c.words-2.new.self c.in_ok-write_entry_parts.ensures
    (both_out c.write_entry_parts.new.out more (10 ∷ []) c.write_more.new.out c.words-2.new.self
    (c.in_ok-write_more.ensures ∙ ap (λ h. c.write_entry_parts.new.out ++ more_words h) c.height.ensures) put)))
    c.words-2.ensures
