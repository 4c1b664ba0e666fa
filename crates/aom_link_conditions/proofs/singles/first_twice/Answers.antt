-- One class after the other is looked at.
use Rattle.std.proofs.Common.{arith, ap, length, subst, ◌≤◌, List}
use Rattle.aom_link_conditions.specs.Chains.{FirstTwiceIn}
use Rattle.aom_link_conditions.proofs.Once.{least_of, once_each}
use Rattle.aom_link_conditions.proofs.singles.first_twice.Goals as goal

pub loop-class-preserved : goal.loop-class-preserved
loop-class-preserved c =
    let p = c.args.image.now in
    let found = subst (λ k. FirstTwiceIn p k c.first_twice_in.result) c.class_number.ensures c.first_twice_in.ensures in
    let both = least_of p c.loop-class.class c.loop-class.least c.first_twice_in.result c.min-least.result c.min-least.ensures c.loop-class.invariant.before
    c.loop-class.invariant.twice c.loop-class.invariant.within found in
    record { within = both.0; before = both.1; twice = both.2 }

pub returns : goal.returns
returns c =
    let p = c.args.image.now in
    let all : length p.classes ≤ c.loop-class.class =
    (let end = c.loop-class-test.false in let count = c.len-class-end.ensures in let same = ap (λ (l : List _). length l) c.classes.ensures.value in omega (arith, end, count, same)) in
    record {
      within = c.loop-class.invariant.within;
      before = λ m lt. once_each p _ c.methods.ensures.well_formed.methods.each m (λ k there. c.loop-class.invariant.before k m (omega (arith, all, there)) lt);
      twice = c.loop-class.invariant.twice;
    }
