use Rattle.std.proofs.Common.{rules}
use Rattle.aom_natives.proofs.counter.CounterNative.call.Goals as goal

pub returns-clause-sum : goal.returns-clause-sum
returns-clause-sum c = search rules
