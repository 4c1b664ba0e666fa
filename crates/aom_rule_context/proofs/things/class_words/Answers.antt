use Rattle.std.proofs.Common.{ap, ◌∙◌, arith}
use Rattle.aom_image.specs.Image.{Image}
use Rattle.aom_rule_context.proofs.AbstractStateLemmas.{words_none, words_some}
use Rattle.aom_rule_context.proofs.things.class_words.Goals as goal

pub returns-in-None : goal.returns-in-None
returns-in-None c = words_none _ _ _ _ (c.as_slice.ensures ∙ c.classes.ensures.value ∙ ap (λ (p : Image). p.classes) c.image.ensures) c.number.ensures.value
    (omega (arith, c.in-None.ensures.lookup))

pub returns-in-Some : goal.returns-in-Some
returns-in-Some c = words_some _ _ _ _ _ (c.as_slice.ensures ∙ c.classes.ensures.value ∙ ap (λ (p : Image). p.classes) c.image.ensures) c.number.ensures.value
    (omega (arith, c.in-Some.ensures.lookup)) c.in-Some.ensures.lookup.1
