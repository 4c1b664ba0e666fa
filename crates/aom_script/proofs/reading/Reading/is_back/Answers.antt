use Rattle.std.proofs.Common.{rules}
use Rattle.aom_script.proofs.reading.Reading.is_back.Goals as goal

pub returns-in-At : goal.returns-in-At
returns-in-At c = search rules
