use Rattle.std.proofs.Common.{rules}
use Rattle.aom_abstract_state.proofs.kind.Kind.is_fresh.Goals as goal

pub returns-in-Own : goal.returns-in-Own
returns-in-Own c = search rules
