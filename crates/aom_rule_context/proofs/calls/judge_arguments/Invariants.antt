use Rattle.std.proofs.Common.{◌≡◌, ◌+◌, drop}
use Rattle.aom_typing_rules.specs.Calls.{each_argument}
use Rattle.aom_abstract_state.specs.Needs.{tested}
use Rattle.aom_rule_context.proofs.calls.judge_arguments.Given as goal

abbrev pub invariant-loop-index : goal.invariant-loop-index
invariant-loop-index l =
    tested (each_argument l.linked l.shape l.arguments l.first) ≡ tested (each_argument l.linked l.shape (drop l.index l.arguments) (l.first + l.index))
