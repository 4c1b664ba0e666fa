use Rattle.std.proofs.Common.{rules}
use Rattle.aom_abstract_state.proofs.kind.MessageState.is_here.Goals as goal

pub returns-in-Gone : goal.returns-in-Gone
returns-in-Gone c = search rules
