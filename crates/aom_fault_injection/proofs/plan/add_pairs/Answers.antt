-- The pairs of one more request are there, or there is no room for them.
use Rattle.std.proofs.Common.{◌+◌, ◌∙◌, ◌++◌, List, ap, arith, sym}
use Rattle.std.specs.List.{flat_map}
use Rattle.aom_fault_injection.specs.Planned.{below, pairs_with}
use Rattle.aom_fault_injection.specs.declared.injection.Injection.{Injection}
use Rattle.aom_fault_injection.proofs.Planning.{grown_full, grown_on, pairs_end, pairs_step}
use Rattle.aom_fault_injection.proofs.plan.add_pairs.Goals as goal

pub loop-number-preserved : goal.loop-number-preserved
loop-number-preserved c =
    let last = c.min-last.result in
    let n = c.loop-number.number in
    let end = c.min-end.result + 1 in
    let done = c.loop-number.pairs.items in
    let i = c.loop-number.invariant in
    let far = ap (λ (xs : List Injection). done ++ xs) (sym (pairs_step last n end (omega (arith, c.loop-number-test.true)))) ∙ i.far in
    let on = grown_on done (pairs_with last n) (flat_map (pairs_with last) (below (n + 1) end)) _ c.add_pairs_with.new.pairs.items c.args.most c.in_ok-left.left
    (sym c.is_some.ensures ∙ c.if-is_some.false) c.in_ok-left.ensures far in
    record { far = on.0; few = on.1 }

pub returns-then-is_some : goal.returns-then-is_some
returns-then-is_some c =
    let last = c.min-last.result in
    let n = c.loop-number.number in
    let end = c.min-end.result + 1 in
    let done = c.loop-number.pairs.items in
    let i = c.loop-number.invariant in
    let far = ap (λ (xs : List Injection). done ++ xs) (sym (pairs_step last n end (omega (arith, c.loop-number-test.true)))) ∙ i.far in
    grown_full done (pairs_with last n) (flat_map (pairs_with last) (below (n + 1) end)) _ c.add_pairs_with.new.pairs.items c.args.most c.in_ok-left.left
    (sym c.is_some.ensures ∙ c.if-is_some.true) c.in_ok-left.ensures far

pub returns : goal.returns
returns c =
    let i = c.loop-number.invariant in
    pairs_end c.loop-number.pairs.items _ c.min-last.result c.loop-number.number (c.min-end.result + 1) c.args.most
    (omega (arith, c.loop-number-test.false)) i.few i.far
