-- One method after the other of the chain.
use Rattle.std.proofs.Common.{arith, refl, suc, ◌≡◌, ◌-◌}
use Rattle.aom_link_conditions.proofs.Putting.{puts_end, puts_last, puts_next, puts_so}
use Rattle.aom_link_conditions.proofs.chains.put_overridden.Goals as goal

pub returns-then-left-eq0-clause-each : goal.returns-then-left-eq0-clause-each
returns-then-left-eq0-clause-each c = λ m n at.
    puts_last c.args.image.now c.args.over c.args.number c.in-Some.other m n _ _ _
    (puts_so _ _ _ _ 0 _ _ _ _ _ _ c.if-left-eq0.true c.in-Some.is (c.loop-here.invariant.each m n at)) c.put.ensures.each

pub loop-here-preserved : goal.loop-here-preserved
loop-here-preserved c =
    let more : c.loop-here.left ≡ suc (c.loop-here.left - 1) = omega (arith, c.if-left-eq0.false) in
    record {
      size = c.put.ensures.size;
      each = λ m n at. rw c.overridden_method-here.ensures (puts_next c.args.image.now c.args.over c.args.number (c.loop-here.left - 1) c.in-Some.other m n _ _ _
          (puts_so _ _ _ _ _ _ _ _ _ _ _ more c.in-Some.is (c.loop-here.invariant.each m n at)) c.put.ensures.each);
    }

pub returns-clause-each : goal.returns-clause-each
returns-clause-each c = λ m n at.
    puts_end c.args.image.now c.args.over c.args.number c.loop-here.left m n _ _ (puts_so _ _ _ _ _ _ _ _ _ _ _ refl c.in_default.is (c.loop-here.invariant.each m n at))
