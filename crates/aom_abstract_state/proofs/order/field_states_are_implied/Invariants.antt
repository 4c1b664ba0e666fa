use Rattle.std.proofs.Common.{◌≡◌}
use Rattle.aom_abstract_state.specs.Tests.{all_implied_field_states}
use Rattle.aom_abstract_state.proofs.order.field_states_are_implied.Given as goal

abbrev pub invariant-loop-one : goal.invariant-loop-one
invariant-loop-one l = all_implied_field_states l.a l.b ≡ all_implied_field_states l.one-iterator.a.rest.now l.one-iterator.b.rest.now
