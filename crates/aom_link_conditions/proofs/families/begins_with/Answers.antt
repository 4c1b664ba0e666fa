use Rattle.std.proofs.Common.{◌≡◌, Some, slice_get, refl, arith}
use Rattle.aom_link_conditions.proofs.Each.{refused, each_more, each_all, each_not}
use Rattle.aom_link_conditions.proofs.families.begins_with.Goals as goal

pub loop-field-init : goal.loop-field-init
loop-field-init c = λ k lt. absurd (omega arith)

pub returns-then-not-has_field : goal.returns-then-not-has_field
returns-then-not-has_field c = each_not
    (λ f t. slice_get c.args.fields.now f ≡ Some t) _ _ _ c.loop-field-test.true c.index-first-field.is (refused _ c.has_field.ensures c.if-not-has_field.true)

pub loop-field-preserved : goal.loop-field-preserved
loop-field-preserved c =
    let here = c.has_field.ensures.0 c.if-not-has_field.false in
    each_more (λ f t. slice_get c.args.fields.now f ≡ Some t) _ _ _ c.loop-field.invariant c.loop-field-test.true c.index-first-field.is here

pub returns : goal.returns
returns c = (λ _. each_all (λ f t. slice_get c.args.fields.now f ≡ Some t) _ _ c.loop-field-test.false c.loop-field.invariant, λ _. refl)
