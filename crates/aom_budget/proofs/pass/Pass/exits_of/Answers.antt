-- One place more, and all of the body.
use Rattle.std.proofs.Common.{rules, ◌≡◌, suc, arith}
use Rattle.std.specs.Prelude.{max}
use Rattle.aom_budget.proofs.Exits.{none_before}
use Rattle.aom_budget.proofs.Most.{before_more}
use Rattle.aom_budget.proofs.pass.Pass.exits_of.Goals as goal

pub loop-place-init : goal.loop-place-init
loop-place-init c = record { most = none_before _ _ _ _ _ _; low = omega arith }

pub loop-place-preserved : goal.loop-place-preserved
loop-place-preserved c =
    let is : c.max-most.result ≡ max c.loop-place.most c.exit_at.result = search rules in
    record {
      most = rw is (before_more 4294967296 _ _ _ _ c.loop-place.invariant.most c.exit_at.ensures.is);
      low = rw is (omega (arith, c.loop-place.invariant.low, c.exit_at.ensures.low));
    }

pub returns-clause-is : goal.returns-clause-is
returns-clause-is c =
    let all : c.loop-place.place ≡ suc c.args.round.last = search rules in
    rw all at c.loop-place.invariant.most
