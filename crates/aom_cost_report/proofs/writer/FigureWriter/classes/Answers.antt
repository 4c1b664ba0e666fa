-- The class at an index has the line of its number.
use Rattle.std.proofs.Common.{◌≡◌, ◌∙◌, ◌<◌, ap, arith, length, slice_index_or, sym, List}
use Rattle.aom_image.specs.Image.{Image}
use Rattle.aom_image.specs.declared.class.ClassDecl.{ClassDecl}
use Rattle.aom_cost_report.proofs.Growing.{class_more}
use Rattle.aom_cost_report.proofs.writer.FigureWriter.classes.Goals as goal

pub loop-index-preserved : goal.loop-index-preserved
loop-index-preserved c =
    let shown : c.classes-classes.result.now ≡ c.args.linked.now.classes = c.classes-classes.ensures.value ∙ ap (λ (p : Image). p.classes) c.image.ensures in
    let count : c.len-index-end.result ≡ length c.args.linked.now.classes = c.len-index-end.ensures ∙ ap (λ (xs : List ClassDecl). length xs) shown in
    let within : c.loop-index.index < length c.args.linked.now.classes = omega (arith, c.loop-index-test.true, count) in
    let here : c.at.result.now ≡ slice_index_or c.args.linked.now.classes c.loop-index.index c.at.result.now =
    c.at.ensures ∙ ap (λ (xs : List ClassDecl). slice_index_or xs c.loop-index.index c.at.result.now) shown in
    class_more c.args.names.now c.args.linked.now _ c.loop-index.index _ c.at.result.now _ _ _
    (sym c.class_number.ensures) within here c.loop-index.invariant c.in_ok-class.ensures
