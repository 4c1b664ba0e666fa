-- An empty text is no fault.
use Rattle.std.proofs.Common.{rules}
use Rattle.aom_host.proofs.output.OutputSink.put.Goals as goal

pub returns-in_default-clause-empty : goal.returns-in_default-clause-empty
returns-in_default-clause-empty g c = search rules
