-- What was found of the checked image is drawn.
use Rattle.std.proofs.Common.{◌∙◌, ap}
use Rattle.std.proofs.lemmas.Result.{IfOk-weaker}
use Rattle.aom_image.specs.Image.{Image}
use Rattle.aom_cost_report.specs.Dot.{dot_text}
use Rattle.aom_commands.proofs.drawing.draw_checked.Goals as goal

pub returns : goal.returns
returns c = IfOk-weaker c.dot_text.result _ _ (λ text drawn. record {
  figures = c.in_ok-figures.figures;
  are = c.in_ok-figures.ensures;
  drawn = drawn ∙ ap (λ (p : Image). dot_text c.args.names.now p c.in_ok-figures.figures) c.linked.ensures;
}) c.dot_text.ensures
