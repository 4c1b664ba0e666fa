-- The parts of the line follow each other.
use Rattle.std.proofs.Common.{◌∙◌, ◌++◌, ap, append_assoc, codes}
use Rattle.std.proofs.lemmas.Result.{IfOk-weaker}
use Rattle.aom_diagnostics.specs.Entries.{Texts, sentence}
use Rattle.aom_diagnostics.proofs.entry.write_remedy.Goals as goal

pub returns : goal.returns
returns c =
    let remedy = sentence c.args.entry.now.remedy in
    IfOk-weaker c.write_sentence.result _ _ (λ r written. written ∙ ap (λ (e : Texts). c.words.new.self ++ sentence e.remedy) c.entry.view_is
    ∙ ap (λ t. t ++ remedy) c.in_ok-words.ensures ∙ append_assoc c.args.out.now (codes "To mend it: ") remedy
    ) c.write_sentence.ensures
