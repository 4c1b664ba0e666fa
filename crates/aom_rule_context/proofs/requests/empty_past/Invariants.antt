use Rattle.std.proofs.Common.{◌≡◌}
use Rattle.aom_typing_rules.specs.Calls.{empty_past}
use Rattle.aom_rule_context.proofs.requests.empty_past.Given as goal

abbrev pub invariant-loop-index : goal.invariant-loop-index
invariant-loop-index l = empty_past l.past l.declared l.field_states ≡ empty_past l.index l.declared l.field_states
