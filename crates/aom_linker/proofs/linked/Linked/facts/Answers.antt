use Rattle.std.proofs.Common.{rules}
use Rattle.aom_linker.proofs.linked.Linked.facts.Goals as goal

pub returns : goal.returns
returns c = search rules
