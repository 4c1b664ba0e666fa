use Rattle.std.proofs.Common.{rules}
use Rattle.aom_abstract_state.proofs.kind.Kind.apart.Goals as goal

pub returns-in-Null-Own : goal.returns-in-Null-Own
returns-in-Null-Own c = search rules
