-- One method of the class after the other is put at all that it overrides.
use Rattle.std.proofs.Common.{◌≡◌, ◌+◌, ◌<◌, ◌≤◌, ◌∙◌, Some, ap, cond, get_or, length, subst, sym}
use Rattle.aom_link_conditions.specs.Overriding.{replaces}
use Rattle.aom_link_conditions.proofs.Finding.{no_class, of_class}
use Rattle.aom_link_conditions.proofs.Ordering.{least_all, least_alike, least_no, least_put}
use Rattle.aom_link_conditions.proofs.singles.above_overriders_of.Goals as goal
use Rattle.aom_link_conditions.proofs.singles.above_overriders_of.Goals.{then-is_class, else-is_class}

pub loop-number-init : goal.loop-number-init
loop-number-init c = record {
  size = c.all_alike-above.ensures.size;
  each = λ k n at. least_alike (replaces c.args.image.now c.args.class k) c.args.image.now.methods 1024 k n (rw c.all_alike-above.ensures.items at at);
}

pub loop-number-preserved : goal.loop-number-preserved
loop-number-preserved c =
    let p = c.args.image.now in
    let i = c.loop-number.number in
    let d = c.method-item.result in
    let same = c.as_slice-method-items.ensures ∙ c.methods-methods.ensures.value in
    let lt = subst (λ ms. i < length ms) same c.loop-number-test.true in
    let at = subst (λ ms. d ≡ get_or ms i d) same c.method-item.is in
    elim c.if-is_class.branch [
      | then-is_class w ↦ rw w.above-is (record {
        size = w.put_overridden.ensures.size;
        each = λ k n is. least_put (replaces p c.args.class k) p.methods i d _ _ k n c.loop-number.invariant.size w.put_overridden.ensures.size
            (c.loop-number.invariant.each k)
            (λ y there. w.put_overridden.ensures.each k y there ∙ ap (λ b. Some (cond b (i + 1) y)) (sym (of_class p c.args.class k d (sym c.is_class.ensures ∙ w.if-is_class.true))))
            lt at is;
      })
      | else-is_class w ↦ rw w.above-is (record {
        size = c.loop-number.invariant.size;
        each = λ k n is. least_no (replaces p c.args.class k) p.methods n i d (c.loop-number.invariant.each k n is) lt at
            (no_class p c.args.class k d (sym c.is_class.ensures ∙ w.if-is_class.false));
      })
    ]

pub returns : goal.returns
returns c =
    let same = c.as_slice-method-items.ensures ∙ c.methods-methods.ensures.value in
    let past = subst (λ ms. length ms ≤ c.loop-number.number) same c.loop-number-test.false in
    record {
      size = c.loop-number.invariant.size;
      each = λ k n at. least_all (replaces c.args.image.now c.args.class k) c.args.image.now.methods n c.loop-number.number (c.loop-number.invariant.each k n at) past;
    }
