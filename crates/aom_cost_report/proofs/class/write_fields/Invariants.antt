use Rattle.std.proofs.Common.{◌≡◌, ◌++◌, take}
use Rattle.aom_cost_report.specs.Classes.{field_line}
use Rattle.aom_cost_report.specs.Each.{each}
use Rattle.aom_cost_report.proofs.class.write_fields.Given as goal

abbrev pub invariant-loop-field : goal.invariant-loop-field
invariant-loop-field l = l.out ≡ l.fn.out ++ each (field_line l.class) 0 (take l.field l.fields)
