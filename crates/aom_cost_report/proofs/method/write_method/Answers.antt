-- The parts of the method follow each other.
use Rattle.std.proofs.Common.{◌++◌, ◌∙◌, ap}
use Rattle.std.proofs.lemmas.Result.{IfOk-weaker}
use Rattle.aom_cost_report.specs.Each.{line_end}
use Rattle.aom_cost_report.specs.Edges.{code_text}
use Rattle.aom_cost_report.specs.Methods.{figures_label, heading_text, method_line, over_text}
use Rattle.aom_cost_report.specs.Over.{color_text, method_is_over}
use Rattle.aom_cost_report.proofs.GraphGrowing.{then}
use Rattle.aom_cost_report.proofs.method.write_method.Goals as goal

pub returns : goal.returns
returns c =
    let text = c.args.out.now in
    let number = c.args.number in
    let heading = heading_text c.args.names.now number c.args.method.now in
    let figures = figures_label c.args.figures.now number in
    let color = color_text (method_is_over c.args.linked.now c.args.figures.now number) in
    let line = method_line c.args.names.now c.args.linked.now c.args.figures.now number c.args.method.now in
    let colored = c.in_ok-write_color.ensures ∙ ap (λ b. c.write_figures.new.out ++ color_text b) c.method_is_over.ensures in
    let before = then text _ _ (heading ++ figures) color (then text _ _ heading figures c.in_ok-write_heading.ensures c.in_ok-write_figures.ensures) colored in
    let ended = then text _ _ (heading ++ figures ++ color) line_end before c.in_ok-words.ensures in
    let over = over_text number c.args.method.now.over in
    let front = then text _ _ line over ended c.in_ok-write_over.ensures in
    IfOk-weaker c.write_code.result _ _ (λ r written. then text _ _ (line ++ over)
    (code_text number c.args.method.now.code) front (written ∙ ap (λ is. c.write_over.new.out ++ code_text number is) c.as_slice.ensures)) c.write_code.ensures
