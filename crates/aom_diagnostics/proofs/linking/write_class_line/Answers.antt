-- The lead, and the line behind it.
use Rattle.std.proofs.Common.{◌≡◌, ◌∙◌, ◌++◌, ap, codes}
use Rattle.std.proofs.lemmas.Result.{IfOk-weaker}
use Rattle.aom_disassembler.specs.Classes.{class_words}
use Rattle.aom_disassembler.specs.Text.{line_of}
use Rattle.aom_diagnostics.proofs.Parts.{both_out}
use Rattle.aom_diagnostics.proofs.linking.write_class_line.Goals as goal

pub returns : goal.returns
returns c =
    let line = line_of (class_words c.args.number c.args.class.now) in
    let is : c.deref.result.now ≡ line = c.deref.ensures.value ∙ c.in_ok-line.ensures
    ∙ ap (λ n. line_of (class_words n c.args.class.now)) (c.from.ensures ∙ c.number.ensures.value) in
    IfOk-weaker c.words-2.result _ _ (λ done put. both_out c.args.out.now (codes "In: ") line c.words.new.self c.words-2.new.self c.in_ok-words.ensures
    (put ∙ ap (λ t. c.words.new.self ++ t) is)) c.words-2.ensures
