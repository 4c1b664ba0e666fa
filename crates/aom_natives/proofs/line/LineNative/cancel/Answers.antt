use Rattle.std.proofs.Common.{rules, ap}
use Rattle.aom_natives.specs.Lines.{Queues}
use Rattle.aom_natives.proofs.Ids.{takes-out}
use Rattle.aom_natives.proofs.line.LineNative.cancel.Goals as goal

pub returns-clause-owed : goal.returns-clause-owed
returns-clause-owed c = rw (c.remove.ensures.items, ap (λ (q : Queues). q.owed) c.self.view_is) (takes-out _ _ _ (search rules) (search rules))
