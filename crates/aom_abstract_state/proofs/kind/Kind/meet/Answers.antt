use Rattle.std.proofs.Common.{rules}
use Rattle.aom_abstract_state.proofs.kind.Kind.meet.Goals as goal

pub returns-then-is_implied_by : goal.returns-then-is_implied_by
returns-then-is_implied_by c = search rules
