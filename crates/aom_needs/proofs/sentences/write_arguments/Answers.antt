use Rattle.std.proofs.Common.{◌∙◌, ◌≡◌}
use Rattle.aom_image.specs.Views.{arguments_of}
use Rattle.aom_needs.proofs.sentences.write_arguments.Goals as goal

pub returns : goal.returns
returns c =
    let first : c.from-first.result ≡ c.args.first = c.from-first.ensures ∙ c.number.ensures.value in
    let same : c.arguments_of.result.now ≡ arguments_of c.args.site.now.image c.args.method = rw (← c.site.view_is) c.arguments_of.ensures in
    rw (first, same) at c.write_two_numbers.ensures
