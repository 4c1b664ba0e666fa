use Rattle.std.proofs.Common.{◌∙◌, ◌≡◌}
use Rattle.aom_roles.specs.Things.{holder_of, word_count}
use Rattle.aom_needs.proofs.sentences.write_object_word.Goals as goal

pub returns : goal.returns
returns c =
    let word : c.from-word.result ≡ c.args.word = c.from-word.ensures ∙ c.number.ensures.value in
    let count : c.from-count.result ≡ word_count c.args.site.now.image (holder_of c.args.site.now.image c.args.site.now.method) =
    c.from-count.ensures ∙ rw (← c.site.view_is) c.word_count.ensures in
    rw (word, count) at c.write_two_numbers.ensures
