-- One method after the other is looked at.
use Rattle.std.proofs.Common.{List, arith, ap, length, subst, ◌<◌, ◌≤◌, ◌∙◌, ⊎_elim}
use Rattle.std.proofs.lemmas.Bool.{cases_lt}
use Rattle.aom_link_conditions.specs.Chains.{OnceIn}
use Rattle.aom_link_conditions.proofs.Each.{refused}
use Rattle.aom_link_conditions.proofs.Once.{once_by}
use Rattle.aom_link_conditions.proofs.singles.first_twice_in.Goals as goal

pub loop-named-preserved : goal.loop-named-preserved
loop-named-preserved c =
    let p = c.args.image.now in
    let i = c.loop-named.named in
    let count = c.len-count.ensures ∙ ap (λ (l : List _). length l) c.methods.ensures.value in
    let few = c.methods.ensures.well_formed.methods.count in
    let lt = c.loop-named-test.true in
    let says = once_by p c.args.class i _ _ _ _ c.overriders_of_class-firsts.ensures c.above_overriders_of-above.ensures c.deref-in-loop-named.ensures.0
    c.deref.ensures.0 (omega (arith, count, few, lt)) in
    let here = says.0 (c.is_once.ensures.0 c.if-is_once.true) in
    record {
      within = omega (arith, lt);
      before = λ m less. ⊎_elim (λ (earlier : m < i). c.loop-named.invariant.before m earlier)
          (λ (last : i ≤ m). subst (λ k. OnceIn p c.args.class k) (omega (arith, last, less)) here) (cases_lt m i);
    }

pub returns-else-is_once : goal.returns-else-is_once
returns-else-is_once c =
    let p = c.args.image.now in
    let i = c.loop-named.named in
    let count = c.len-count.ensures ∙ ap (λ (l : List _). length l) c.methods.ensures.value in
    let few = c.methods.ensures.well_formed.methods.count in
    let lt = c.loop-named-test.true in
    let says = once_by p c.args.class i _ _ _ _ c.overriders_of_class-firsts.ensures c.above_overriders_of-above.ensures c.deref-in-loop-named.ensures.0
    c.deref.ensures.0 (omega (arith, count, few, lt)) in
    record {
      within = omega (arith, lt, count);
      before = c.loop-named.invariant.before;
      twice = λ there. says.1 (refused _ c.is_once.ensures c.if-is_once.false);
    }
