use Rattle.std.proofs.Common.{rules}
use Rattle.aom_abstract_state.proofs.flow.Next.with_entry.Goals as goal

pub returns : goal.returns
returns c = search rules
