-- One more pair is there, while there is room.
use Rattle.std.proofs.Common.{List, map, length, ◌++◌, ◌+◌, ◌∷◌, [], ◌∙◌, ap, arith, length-append}
use Rattle.aom_fault_injection.specs.Planned.{below}
use Rattle.aom_fault_injection.specs.declared.injection.Injection.{Injection}
use Rattle.aom_fault_injection.specs.declared.injection.Injection.TheVariants.{Pair}
use Rattle.aom_fault_injection.proofs.Numbers.{all_on, push_on}
use Rattle.aom_fault_injection.proofs.plan.add_pairs_with.Goals as goal

pub loop-other-preserved : goal.loop-other-preserved
loop-other-preserved c =
    let n = c.loop-other.other in
    let end = c.args.last + 1 in
    let done = c.loop-other.pairs.items in
    let i = c.loop-other.invariant in
    let one = Pair c.args.number n in
    let long = ap (λ (xs : List Injection). length xs) c.in_ok-push.ensures.items ∙ length-append done (one ∷ []) in
    let room = c.if-len-most.false in
    let many = c.len.ensures in
    record {
      far = ap (λ (xs : List Injection). xs ++ map (Pair c.args.number) (below (n + 1) end)) c.in_ok-push.ensures.items
          ∙ push_on (Pair c.args.number) done _ n end (omega (arith, c.loop-other-test.true, c.from.ensures)) i.far;
      few = omega (arith, long, room, many);
    }

pub returns : goal.returns
returns c =
    let i = c.loop-other.invariant in
    (all_on (Pair c.args.number) c.loop-other.pairs.items _ c.loop-other.other (c.args.last + 1) (omega (arith, c.loop-other-test.false, c.from.ensures)) i.far, i.few)
