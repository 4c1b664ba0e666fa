-- What is asked for is of a text that denotes its image.
use Rattle.std.proofs.Common.{rules}
use Rattle.aom_source_commands.proofs.compiling.compile.Goals as goal

pub returns-in-Ok-translate : goal.returns-in-Ok-translate
returns-in-Ok-translate c =
    let made = c.in-Ok-translate.ensures in
    record {
      compiled = record {
        tokens = c.in-Ok.tokens;
        of_source = search rules;
        read = search rules;
        written = c.in-Ok-translate.translation.written;
        image = c.in-Ok-translate.translation.image;
        denotes = made.image;
        lines = made.lines;
        names = made.names;
        classes = made.classes;
        methods = made.methods;
        members = made.members;
        is = c.in_ok-output_of-in-Ok-translate.ensures;
      };
    }
