-- The parts of the class follow each other.
use Rattle.std.proofs.Common.{◌++◌, ◌∙◌, ap}
use Rattle.std.proofs.lemmas.Result.{IfOk-weaker}
use Rattle.aom_cost_report.specs.Classes.{class_heading, class_line, fields_text, parent_text}
use Rattle.aom_cost_report.specs.Each.{line_end}
use Rattle.aom_cost_report.specs.Over.{class_is_over, color_text}
use Rattle.aom_cost_report.proofs.GraphGrowing.{then}
use Rattle.aom_cost_report.proofs.class.write_class.Goals as goal

pub returns : goal.returns
returns c =
    let text = c.args.out.now in
    let class = c.args.declaration.now in
    let heading = class_heading c.args.names.now c.args.class class.kind in
    let color = color_text (class_is_over c.args.linked.now c.args.figures.now.prices c.args.class class) in
    let line = class_line c.args.names.now c.args.linked.now c.args.figures.now.prices c.args.class class in
    let colored = c.in_ok-write_color.ensures ∙ ap (λ b. c.write_class_heading.new.out ++ color_text b) c.class_is_over.ensures in
    let parent = parent_text c.args.class class.parent in
    let ended = then text _ _ (heading ++ color) line_end (then text _ _ heading color c.in_ok-write_class_heading.ensures colored) c.in_ok-words.ensures in
    let front = then text _ _ line parent ended c.in_ok-write_parent.ensures in
    IfOk-weaker c.write_fields.result _ _ (λ r written. then text _ _ (line ++ parent) (fields_text c.args.class class.fields) front
    (written ∙ ap (λ fs. c.write_parent.new.out ++ fields_text c.args.class fs) c.as_slice.ensures)) c.write_fields.ensures
