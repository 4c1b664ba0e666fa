-- The method's places are those of the image.
use Rattle.std.proofs.Common.{◌≡◌, ◌∙◌, ap}
use Rattle.aom_image.specs.Image.{Image}
use Rattle.aom_image.specs.Views.{method_at}
use Rattle.aom_budget.proofs.LinkConditionsLemmas.{read, within}
use Rattle.aom_budget.proofs.pass.place_count.Goals as goal

pub at-requires : goal.at-requires
unfolding method_at
at-requires c =
    let shown : c.methods-methods.result.now ≡ c.args.linked.now.methods = c.methods-methods.ensures.value ∙ ap (λ (p : Image). p.methods) c.image.ensures in
    within c.args.linked.now.methods _ _ _ shown c.number.ensures.value c.requires

pub returns : goal.returns
unfolding method_at
returns c =
    let shown : c.methods-methods.result.now ≡ c.args.linked.now.methods = c.methods-methods.ensures.value ∙ ap (λ (p : Image). p.methods) c.image.ensures in
    record {
      method = c.at.result.now;
      is = read c.args.linked.now.methods _ _ _ _ shown c.number.ensures.value c.requires c.at.ensures;
      size = c.len.ensures;
    }
