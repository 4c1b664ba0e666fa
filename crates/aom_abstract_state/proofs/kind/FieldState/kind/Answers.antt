use Rattle.std.proofs.Common.{rules}
use Rattle.aom_abstract_state.proofs.kind.FieldState.kind.Goals as goal

pub returns-in-Perhaps : goal.returns-in-Perhaps
returns-in-Perhaps c = search rules
