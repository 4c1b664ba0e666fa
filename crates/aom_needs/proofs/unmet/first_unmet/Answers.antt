use Rattle.std.proofs.Common.{◌∙◌, sym}
use Rattle.aom_needs.proofs.First.{met_here, none_here, unmet_here}
use Rattle.aom_needs.proofs.unmet.first_unmet.Goals as goal

pub returns-then-not-is_met : goal.returns-then-not-is_met
returns-then-not-is_met c =
    let site = c.args.site.now in
    sym (c.loop-wanted.invariant ∙ unmet_here site.image site.method site.shape c.args.wants.now c.loop-wanted.wanted-index c.wanted-item.result
    c.loop-wanted-test.true c.wanted-item.is (sym c.is_met.ensures ∙ c.if-not-is_met.true))

pub loop-wanted-preserved : goal.loop-wanted-preserved
loop-wanted-preserved c =
    let site = c.args.site.now in
    c.loop-wanted.invariant ∙ met_here site.image site.method site.shape c.args.wants.now c.loop-wanted.wanted-index c.wanted-item.result
    c.loop-wanted-test.true c.wanted-item.is (sym c.is_met.ensures ∙ c.if-not-is_met.false)

pub returns : goal.returns
returns c =
    let site = c.args.site.now in
    sym (c.loop-wanted.invariant ∙ none_here site.image site.method site.shape c.args.wants.now c.loop-wanted.wanted-index c.loop-wanted-test.false)
