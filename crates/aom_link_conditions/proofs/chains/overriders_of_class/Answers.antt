-- One method after the other, the last first, is put at all that it overrides.
use Rattle.std.proofs.Common.{List, arith, ap, length, position, subst, sym, ◌∙◌, ◌≡◌, ◌+◌, ◌-◌, ◌≤◌}
use Rattle.aom_link_conditions.specs.Chains.{number_or_none}
use Rattle.aom_link_conditions.specs.Overriding.{overrider_of, replaces}
use Rattle.aom_link_conditions.proofs.Finding.{FirstFrom, first_found, first_of_none, first_other_class, first_put}
use Rattle.aom_link_conditions.proofs.Ordering.{read_alike}
use Rattle.aom_link_conditions.proofs.chains.overriders_of_class.Goals as goal

pub loop-number-init : goal.loop-number-init
loop-number-init c = record {
  size = c.all_alike-overriders.ensures.size;
  within = omega arith;
  each = λ m n at. first_of_none (replaces c.args.image.now c.args.class m) _ _ n (omega arith)
      (read_alike 1024 1024 m n (rw c.all_alike-overriders.ensures.items at at));
}

pub loop-number-preserved-then-is_class : goal.loop-number-preserved-then-is_class
loop-number-preserved-then-is_class c =
    let p = c.args.image.now in
    let ms = c.as_slice-methods.result.now in
    let i = c.loop-number.number in
    let within = c.loop-number.invariant.within in
    let some = c.loop-number-test.true in
    let next : i ≡ i - 1 + 1 = omega (arith, some) in
    record {
      size = c.put_overridden.ensures.size;
      within = omega (arith, within);
      each = λ m n at. first_put p c.args.class m (i - 1) n c.index-methods-number.result ms c.loop-number.overriders.items _ c.loop-number.invariant.size
          c.put_overridden.ensures.size (λ y is. subst (λ k. FirstFrom (replaces p c.args.class m) ms k y) next (c.loop-number.invariant.each m y is))
          (c.put_overridden.ensures.each m) (omega (arith, within, some)) c.index-methods-number.is (sym c.is_class.ensures ∙ c.if-is_class.true) at;
    }

pub loop-number-preserved : goal.loop-number-preserved
loop-number-preserved c =
    let p = c.args.image.now in
    let ms = c.as_slice-methods.result.now in
    let i = c.loop-number.number in
    let within = c.loop-number.invariant.within in
    let some = c.loop-number-test.true in
    let next : i ≡ i - 1 + 1 = omega (arith, some) in
    record {
      size = c.loop-number.invariant.size;
      within = omega (arith, within);
      each = λ m n at. first_other_class p c.args.class m (i - 1) n c.index-methods-number.result ms
          (subst (λ k. FirstFrom (replaces p c.args.class m) ms k n) next (c.loop-number.invariant.each m n at)) (omega (arith, within, some))
          c.index-methods-number.is (sym c.is_class.ensures ∙ c.if-is_class.false);
    }

pub returns : goal.returns
unfolding overrider_of
returns c =
    let p = c.args.image.now in
    let same = c.as_slice-methods.ensures ∙ c.methods.ensures.value in
    let few : length c.as_slice-methods.result.now ≤ 1024 = (let count = c.methods.ensures.well_formed.methods.count in let size = ap (λ (l : List _). length l) same in omega (arith, count, size)) in
    record {
      size = c.loop-number.invariant.size;
      each = λ m n at. subst (λ ms. n ≡ number_or_none (position (replaces p c.args.class m) ms)) same (first_found (replaces p c.args.class m) _ n few
          (subst (λ k. FirstFrom (replaces p c.args.class m) c.as_slice-methods.result.now k n) (omega (arith, c.loop-number-test.false)) (c.loop-number.invariant.each m n at)));
    }
