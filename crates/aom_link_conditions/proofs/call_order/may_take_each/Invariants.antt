use Rattle.std.proofs.Common.{All, take}
use Rattle.aom_link_conditions.specs.Calls.{MentionsArgument}
use Rattle.aom_link_conditions.proofs.call_order.may_take_each.Given as goal

abbrev pub invariant-loop-argument : goal.invariant-loop-argument
invariant-loop-argument l = All (MentionsArgument l.image l.method) (take l.argument-index l.arguments)
