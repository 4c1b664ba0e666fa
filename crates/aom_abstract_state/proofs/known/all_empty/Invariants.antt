use Rattle.std.proofs.Common.{◌≡◌, ◌≤◌, length}
use Rattle.aom_abstract_state.specs.Kinds.{all_empty}
use Rattle.aom_abstract_state.proofs.known.all_empty.Given as goal

abbrev pub invariant-loop-field_state : goal.invariant-loop-field_state
invariant-loop-field_state l = record {
  fits : length l.field_state-iterator.a.rest.now ≤ length l.field_state-iterator.b.rest.now;
  same : all_empty l.declared l.field_states ≡ all_empty l.field_state-iterator.a.rest.now l.field_state-iterator.b.rest.now;
}
