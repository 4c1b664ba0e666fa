use Rattle.std.proofs.Common.{rules}
use Rattle.aom_machine_state.proofs.parts.Parts.field_word.Goals as goal

pub returns : goal.returns
returns c = search rules
