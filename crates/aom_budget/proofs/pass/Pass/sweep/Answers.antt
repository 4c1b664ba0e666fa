-- One place more is found, with what was found of the later ones.
use Rattle.std.proofs.Common.{◌≡◌, ◌-◌, suc, arith}
use Rattle.aom_budget.proofs.pass.Pass.sweep.Goals as goal

pub loop-place-init : goal.loop-place-init
loop-place-init c = record { passing = rw c.len-place.ensures c.requires.passing; within = omega (arith, c.len-place.ensures) }

pub visit-requires-clause-passing : goal.visit-requires-clause-passing
visit-requires-clause-passing c =
    let one_more : suc (c.loop-place.place - 1) ≡ c.loop-place.place = omega (arith, c.loop-place-test.true) in
    rw one_more c.loop-place.invariant.passing

pub loop-place-preserved : goal.loop-place-preserved
loop-place-preserved c = record { passing = c.visit.ensures.passing; within = omega (arith, c.visit.ensures.size, c.loop-place.invariant.within) }

pub returns : goal.returns
returns c =
    let none : c.loop-place.place ≡ 0 = omega (arith, c.loop-place-test.false) in
    rw none at c.loop-place.invariant.passing
