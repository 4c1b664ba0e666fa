use Rattle.std.proofs.Common.{rules}
use Rattle.aom_abstract_state.proofs.kind.FieldState.is_implied_by.Goals as goal

pub returns-in-Perhaps : goal.returns-in-Perhaps
returns-in-Perhaps c = search rules
