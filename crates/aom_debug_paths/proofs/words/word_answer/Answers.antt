-- The word of the cell is that of the object.
use Rattle.std.proofs.Common.{◌∙◌, FitsSigned, Some, ap, rules, w32}
use Rattle.std.proofs.lemmas.Int.{to_z-of_z}
use Rattle.aom_debug_protocol.specs.declared.answer.Answer.TheVariants.{Word}
use Rattle.aom_debug_paths.proofs.Worded.{word_reported}
use Rattle.aom_debug_paths.proofs.words.word_answer.Goals as goal

pub returns : goal.returns
returns c = λ p s st.
    let fits : FitsSigned w32 c.word.result = search rules in
    rw (to_z-of_z w32 c.word.result fits)
    (ap (λ v. Some (Word c.args.word v)) (c.word.ensures ∙ word_reported p c.args.parts.now s st c.args.cell c.requires.lives c.args.word))
