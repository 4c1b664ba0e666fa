-- The parts of the line follow each other.
use Rattle.std.proofs.Common.{◌++◌, codes}
use Rattle.std.proofs.lemmas.Result.{IfOk-weaker}
use Rattle.aom_cost_report.specs.Classes.{kind_word}
use Rattle.aom_cost_report.specs.Each.{numbered}
use Rattle.aom_cost_report.specs.Names.{label}
use Rattle.aom_cost_report.proofs.GraphGrowing.{then}
use Rattle.aom_cost_report.proofs.class.write_class_heading.Goals as goal

pub returns : goal.returns
returns c =
    let text = c.args.out.now in
    let box = numbered (codes "c") c.args.class in
    let shape = codes " [shape=box label=\"" in
    let name = label c.args.names.now.classes (codes "c") c.args.class in
    let shaped = then text _ _ box shape c.in_ok-write_class_number.ensures c.in_ok-words.ensures in
    let named = then text _ _ (box ++ shape) name shaped c.in_ok-write_class.ensures in
    IfOk-weaker c.write_kind_word.result _ _ (λ r written. then text _ _ (box ++ shape ++ name) (kind_word c.args.kind) named written) c.write_kind_word.ensures
