use Rattle.std.proofs.Common.{rules}
use Rattle.aom_script.proofs.line.said_by.Goals as goal

pub returns-in_ok-within-in-Refusal : goal.returns-in_ok-within-in-Refusal
returns-in_ok-within-in-Refusal c = search rules
