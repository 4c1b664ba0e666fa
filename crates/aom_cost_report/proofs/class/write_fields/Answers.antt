-- Each field is written by its number.
use Rattle.std.proofs.Common.{refl}
use Rattle.aom_cost_report.specs.Classes.{field_line}
use Rattle.aom_cost_report.proofs.GraphGrowing.{each_more}
use Rattle.aom_cost_report.proofs.class.write_fields.Goals as goal

pub loop-field-preserved : goal.loop-field-preserved
loop-field-preserved c =
    each_more (field_line c.args.class) _ _ _ _ _ _ _ refl c.loop-field-test.true c.index-fields-field.is c.loop-field.invariant c.in_ok-write_field.ensures
