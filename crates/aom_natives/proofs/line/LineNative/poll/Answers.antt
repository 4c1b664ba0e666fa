use Rattle.std.proofs.Common.{rules}
use Rattle.aom_natives.proofs.line.LineNative.poll.Goals as goal

pub returns-clause-answer : goal.returns-clause-answer
returns-clause-answer c = search rules

pub returns-clause-gone : goal.returns-clause-gone
returns-clause-gone c = search rules
