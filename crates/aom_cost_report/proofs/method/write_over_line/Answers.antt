-- The parts of the line follow each other.
use Rattle.std.proofs.Common.{◌++◌, codes}
use Rattle.std.proofs.lemmas.Result.{IfOk-weaker}
use Rattle.aom_cost_report.specs.Each.{line_end, numbered}
use Rattle.aom_cost_report.proofs.GraphGrowing.{then}
use Rattle.aom_cost_report.proofs.method.write_over_line.Goals as goal

pub returns : goal.returns
returns c =
    let text = c.args.out.now in
    let from = numbered (codes "m") c.args.method in
    let to = numbered (codes " -> m") c.args.over in
    let both = then text _ _ from to c.in_ok-write_method_number.ensures c.in_ok-write_method_number-2.ensures in
    IfOk-weaker c.words.result _ _ (λ r written. then text _ _ (from ++ to) (codes " [key=over arrowhead=empty" ++ line_end) both written) c.words.ensures
