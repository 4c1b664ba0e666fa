-- The parts so far are out.
use Rattle.std.proofs.Common.{◌≡◌, ◌++◌}
use Rattle.aom_cost_report.specs.Text.{by_number}
use Rattle.aom_abstract_state.specs.Kinds.{register}
use Rattle.aom_diagnostics.specs.Known.{register_part}
use Rattle.aom_diagnostics.proofs.known.write_register_parts.Given as goal

abbrev pub invariant-loop-number : goal.invariant-loop-number
invariant-loop-number l = l.out ≡ l.fn.out ++ by_number (λ i. register_part l.names i (register l.shape i)) l.number
