-- The flag is read of the text that was found for it.
use Rattle.std.proofs.Common.{◌∙◌}
use Rattle.clap.specs.Words.{found_of}
use Rattle.clap.proofs.WalkLemmas.{one_text-rows}
use Rattle.aom_command_line.proofs.words.is_set.Goals as goal

pub returns : goal.returns
returns c =
    let read = one_text-rows (found_of c.args.own.now) c.args.id.now in
    record {
      none = λ text. c.get_flag.ensures.none (read ∙ text);
      used = λ text. c.get_flag.ensures.value (read ∙ text);
      unused = λ text. c.get_flag.ensures.other (read ∙ text);
    }
