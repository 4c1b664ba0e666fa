-- The parts so far are out.
use Rattle.std.proofs.Common.{◌≡◌, ◌++◌}
use Rattle.aom_cost_report.specs.Text.{by_number}
use Rattle.aom_abstract_state.specs.Kinds.{field}
use Rattle.aom_roles.specs.Things.{field_thing, holder_of}
use Rattle.aom_diagnostics.specs.Known.{field_part}
use Rattle.aom_diagnostics.proofs.known.write_field_parts.Given as goal

abbrev pub invariant-loop-number : goal.invariant-loop-number
invariant-loop-number l =
    l.out ≡ l.fn.out ++ by_number (λ f. field_part l.names f (field_thing l.at.linked.now (holder_of l.at.linked.now l.at.method) f) (field l.at.shape.now f)) l.number
