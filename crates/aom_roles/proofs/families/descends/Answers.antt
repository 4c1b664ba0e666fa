use Rattle.std.proofs.Common.{refl, sym, ap, ◌∙◌, ◌≡◌}
use Rattle.aom_roles.proofs.Descending.{from_none, from_parent, is_other, itself, parent_below}
use Rattle.aom_roles.specs.Families.{descends}
use Rattle.aom_roles.proofs.families.descends.Goals as goal

pub loop-ancestor-init : goal.loop-ancestor-init
loop-ancestor-init c = refl

pub returns-in_default : goal.returns-in_default
returns-in_default c =
    let other = is_other c.loop-ancestor.here c.args.ancestor
    (λ same. c.loop-ancestor-test.true (c.number.ensures.value ∙ same ∙ sym c.number-in-loop-ancestor.ensures.value)) in
    sym (c.loop-ancestor.invariant ∙ from_none c.args.image.now c.loop-ancestor.here c.args.ancestor other (sym c.parent_of.ensures ∙ c.in_default.is))

pub loop-ancestor-smaller : goal.loop-ancestor-smaller
loop-ancestor-smaller c = parent_below c.args.image.now c.loop-ancestor.here c.in-Some.parent (sym c.parent_of.ensures ∙ c.in-Some.is)

pub loop-ancestor-preserved : goal.loop-ancestor-preserved
loop-ancestor-preserved c =
    let other = is_other c.loop-ancestor.here c.args.ancestor
    (λ same. c.loop-ancestor-test.true (c.number.ensures.value ∙ same ∙ sym c.number-in-loop-ancestor.ensures.value)) in
    c.loop-ancestor.invariant ∙ from_parent c.args.image.now c.loop-ancestor.here c.in-Some.parent c.args.ancestor other (sym c.parent_of.ensures ∙ c.in-Some.is)

pub returns : goal.returns
returns c =
    let same : c.loop-ancestor.here ≡ c.args.ancestor = sym c.number.ensures.value ∙ c.loop-ancestor-test.false ∙ c.number-in-loop-ancestor.ensures.value in
    sym (c.loop-ancestor.invariant ∙ ap (λ x. descends c.args.image.now x c.args.ancestor) same ∙ itself c.args.image.now c.args.ancestor)
