use Rattle.std.proofs.Common.{rules}
use Rattle.aom_abstract_state.proofs.entry_stacks.+entry_at.Goals as goal

pub returns-then-number-eq0 : goal.returns-then-number-eq0
returns-then-number-eq0 t c = search rules
