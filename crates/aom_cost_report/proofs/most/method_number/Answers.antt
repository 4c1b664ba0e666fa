use Rattle.std.proofs.Common.{rules}
use Rattle.aom_cost_report.proofs.most.method_number.Goals as goal

pub returns : goal.returns
returns c = search rules
