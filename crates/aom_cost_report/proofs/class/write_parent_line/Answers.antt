-- The parts of the line follow each other.
use Rattle.std.proofs.Common.{◌++◌, codes}
use Rattle.std.proofs.lemmas.Result.{IfOk-weaker}
use Rattle.aom_cost_report.specs.Each.{line_end, numbered}
use Rattle.aom_cost_report.proofs.GraphGrowing.{then}
use Rattle.aom_cost_report.proofs.class.write_parent_line.Goals as goal

pub returns : goal.returns
returns c =
    let text = c.args.out.now in
    let from = numbered (codes "c") c.args.class in
    let to = numbered (codes " -> c") c.args.parent in
    let both = then text _ _ from to c.in_ok-write_class_number.ensures c.in_ok-write_class_number-2.ensures in
    IfOk-weaker c.words.result _ _ (λ r written. then text _ _ (from ++ to) (codes " [arrowhead=empty" ++ line_end) both written) c.words.ensures
