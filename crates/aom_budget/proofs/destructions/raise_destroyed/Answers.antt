-- One class more, and all of them.
use Rattle.std.proofs.Common.{◌≡◌, length, rules}
use Rattle.aom_budget.proofs.Destroyed.{destroyed_made}
use Rattle.aom_budget.proofs.Raised.{raised_next}
use Rattle.aom_budget.proofs.destructions.raise_destroyed.Goals as goal

pub loop-index-preserved : goal.loop-index-preserved
loop-index-preserved c = raised_next c.args.linked.now _ _ _ _ _ _ _ _ c.image-in-loop-index.ensures
    c.class_number-class.ensures c.whole_going.ensures.is c.loop-index.invariant c.raise_class.ensures.size c.raise_class.ensures.each

pub returns : goal.returns
returns c =
    let count : c.loop-index.index ≡ length c.args.linked.now.classes = search rules in
    destroyed_made c.args.linked.now (rw c.image.ensures at c.classes.ensures.well_formed) c.args.prices.now _ _ c.requires.size c.requires.below
    (rw count at c.loop-index.invariant)
