-- The method's places are those of the well-formed image.
use Rattle.std.proofs.Common.{◌≡◌, ◌∙◌, ap}
use Rattle.aom_image.specs.Image.{Image}
use Rattle.aom_image.specs.Views.{method_at}
use Rattle.aom_image.specs.WellFormed.{WellFormed}
use Rattle.aom_verify.proofs.LinkConditionsLemmas.{read, within}
use Rattle.aom_verify.proofs.Places.{some_places}
use Rattle.aom_verify.proofs.checked.place_count.Goals as goal

pub at-requires : goal.at-requires
unfolding method_at
at-requires c =
    let shown : c.methods-methods.result.now ≡ c.args.linked.now.methods = c.methods-methods.ensures.value ∙ ap (λ (p : Image). p.methods) c.image.ensures in
    within c.args.linked.now.methods _ _ _ shown c.number.ensures.value c.requires

pub returns-clause-some : goal.returns-clause-some
unfolding method_at
returns-clause-some c =
    let shown : c.methods-methods.result.now ≡ c.args.linked.now.methods = c.methods-methods.ensures.value ∙ ap (λ (p : Image). p.methods) c.image.ensures in
    let there = read c.args.linked.now.methods _ _ _ _ shown c.number.ensures.value c.requires c.at.ensures in
    let formed : WellFormed c.args.linked.now = rw c.image.ensures at c.methods-methods.ensures.well_formed in
    rw c.len.ensures (some_places c.args.linked.now _ _ formed there)

pub returns-clause-all : goal.returns-clause-all
unfolding method_at
returns-clause-all c =
    let shown : c.methods-methods.result.now ≡ c.args.linked.now.methods = c.methods-methods.ensures.value ∙ ap (λ (p : Image). p.methods) c.image.ensures in
    record {
      method = c.at.result.now;
      is = read c.args.linked.now.methods _ _ _ _ shown c.number.ensures.value c.requires c.at.ensures;
      size = c.len.ensures;
    }
