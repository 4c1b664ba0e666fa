-- As many as the class at that number has.
use Rattle.std.proofs.Common.{arith}
use Rattle.std.proofs.lemmas.Option.{gets}
use Rattle.aom_image.specs.Views.{class_at}
use Rattle.aom_roles.specs.Things.{words_in}
use Rattle.aom_debug_paths.proofs.words.word_count.Goals as goal

pub returns-in-Some-clause-value : goal.returns-in-Some-clause-value
unfolding class_at words_in
returns-in-Some-clause-value c = grind (arith, gets)

pub returns-in-None-clause-value : goal.returns-in-None-clause-value
unfolding class_at words_in
returns-in-None-clause-value c = grind (arith, gets)
