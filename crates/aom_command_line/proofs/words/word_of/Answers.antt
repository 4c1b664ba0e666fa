-- The word is the first that was found.
use Rattle.std.proofs.Common.{◌∙◌, refl}
use Rattle.std.proofs.lemmas.Result.{IfOk-weaker}
use Rattle.clap.specs.Words.{found_of}
use Rattle.aom_command_line.proofs.Reading.{chosen}
use Rattle.aom_command_line.proofs.words.word_of.Goals as goal

pub returns : goal.returns
returns c = IfOk-weaker c.from_str.result _ _ (λ s e. e
    ∙ chosen (found_of c.args.own.now) c.args.id.now c.get_str.result _ c.unwrap_or.result c.unwrap_or.ensures refl c.get_str.ensures) c.from_str.ensures.ok
