-- The parts so far are out.
use Rattle.std.proofs.Common.{◌≡◌, ◌++◌, slice_get}
use Rattle.aom_cost_report.specs.Text.{by_number}
use Rattle.aom_diagnostics.specs.Known.{entry_part}
use Rattle.aom_diagnostics.proofs.known.write_entry_parts.Given as goal

abbrev pub invariant-loop-number : goal.invariant-loop-number
invariant-loop-number l = l.out ≡ l.fn.out ++ by_number (λ k. entry_part l.names k (slice_get l.shape.entries k)) l.number
