use Rattle.std.proofs.Common.{All, take}
use Rattle.aom_link_conditions.specs.Calls.{MentionsThing}
use Rattle.aom_link_conditions.proofs.call_order.may_own.Given as goal

abbrev pub invariant-loop-thing : goal.invariant-loop-thing
invariant-loop-thing l = All (MentionsThing l.image l.method) (take l.thing-index l.things)
