-- One class more, and all of them.
use Rattle.std.proofs.Common.{◌≡◌, ◌∙◌, length, rules}
use Rattle.aom_budget.proofs.StaticBoundsLemmas.{gone_with}
use Rattle.aom_budget.proofs.Lined.{absent_gone}
use Rattle.aom_budget.proofs.Raised.{greatest_made, raised_next}
use Rattle.aom_budget.proofs.lines.raise_destruction.Goals as goal

pub loop-index-preserved : goal.loop-index-preserved
loop-index-preserved c =
    let same : c.from.result ≡ c.going_depth-depth.result = search rules in
    raised_next c.args.linked.now _ _ _ _ _ _ _ _ c.image-in-loop-index.ensures c.class_number-class.ensures
    (same ∙ c.going_depth-depth.ensures) c.loop-index.invariant c.raise_class.ensures.size c.raise_class.ensures.each

pub returns : goal.returns
returns c =
    let count : c.loop-index.index ≡ length c.args.linked.now.classes = search rules in
    greatest_made c.args.linked.now c.args.depths.now (gone_with c.args.linked.now) (absent_gone c.args.linked.now
    (rw c.image.ensures at c.classes.ensures.well_formed)) _ _ c.requires.size c.requires.below (rw count at c.loop-index.invariant)
