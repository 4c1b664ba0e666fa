use Rattle.std.proofs.Common.{rules}
use Rattle.aom_script.proofs.reading.Reading.of.Goals as goal

pub returns-else-is_text : goal.returns-else-is_text
returns-else-is_text c = search rules
