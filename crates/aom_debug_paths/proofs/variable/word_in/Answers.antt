-- Its class has that many.
use Rattle.std.proofs.Common.{◌<◌, ◌∙◌, Some, ap, arith}
use Rattle.aom_roles.specs.Things.{words_of}
use Rattle.aom_semantics.specs.Places.{word_field}
use Rattle.aom_debug_protocol.specs.declared.answer.Answer.TheVariants.{Word}
use Rattle.aom_debug_paths.proofs.Named.{word_has}
use Rattle.aom_debug_paths.proofs.variable.word_in.Goals as goal

pub returns-then-number-word_count : goal.returns-then-number-word_count
returns-then-number-word_count c = λ p s st.
    let i = c.args.word in
    let less : i < words_of c.args.linked.now c.args.class = omega (arith, c.if-number-word_count.true, c.number.ensures.value, c.word_count.ensures.value) in
    c.word_answer.ensures p s st ∙ ap (λ k. Some (Word k (word_field s.cells c.args.cell k))) c.number-then-number-word_count.ensures.value
    ∙ word_has c.args.linked.now s.cells c.args.cell c.args.class i less
