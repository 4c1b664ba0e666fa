-- One method after the other is put at all that it overrides.
use Rattle.std.proofs.Common.{◌≡◌, ◌<◌, ◌≤◌, ◌∙◌, get_or, length, subst}
use Rattle.aom_link_conditions.specs.Overriding.{leads_to}
use Rattle.aom_link_conditions.proofs.Ordering.{least_alike, least_each, least_put}
use Rattle.aom_link_conditions.proofs.orders.above_overriders_each.Goals as goal

pub loop-number-init : goal.loop-number-init
loop-number-init c = record {
  all = c.all_alike-calls.ensures.size;
  each = λ k n at. least_alike (λ d. leads_to c.args.image.now d.over k) c.args.image.now.methods 1024 k n (rw c.all_alike-calls.ensures.items at at);
}

pub loop-number-preserved : goal.loop-number-preserved
loop-number-preserved c =
    let same = c.as_slice-method-items.ensures ∙ c.methods-methods.ensures.value in
    let lt = subst (λ ms. c.loop-number.number < length ms) same c.loop-number-test.true in
    let at = subst (λ ms. c.method-item.result ≡ get_or ms c.loop-number.number c.method-item.result) same c.method-item.is in
    record {
      all = c.put_overridden.ensures.size;
      each = λ k n is. least_put (λ d. leads_to c.args.image.now d.over k) c.args.image.now.methods c.loop-number.number c.method-item.result _ _ k n
          c.loop-number.invariant.all c.put_overridden.ensures.size (c.loop-number.invariant.each k) (c.put_overridden.ensures.each k) lt at is;
    }

pub returns : goal.returns
returns c =
    let same = c.as_slice-method-items.ensures ∙ c.methods-methods.ensures.value in
    record {
      all = c.loop-number.invariant.all;
      each = λ k. least_each (λ d. leads_to c.args.image.now d.over k) c.args.image.now.methods c.loop-number.number c.loop-number.calls.items k
          (c.loop-number.invariant.each k) (subst (λ ms. length ms ≤ c.loop-number.number) same c.loop-number-test.false);
    }
