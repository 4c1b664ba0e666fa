use Rattle.std.proofs.Common.{subst, sym, arith}
use Rattle.aom_link_conditions.specs.Calls.{EndsBelow}
use Rattle.aom_link_conditions.specs.Orders.{AreLeast, IsLeast}
use Rattle.aom_link_conditions.proofs.Ordering.{least_push, table_none}
use Rattle.aom_link_conditions.proofs.orders.endings.Goals as goal

pub push-requires : goal.push-requires
push-requires c = omega (arith, c.loop-class.invariant.all, c.loop-class-test.true)

pub loop-class-init : goal.loop-class-init
loop-class-init c = subst (λ ns. AreLeast 0 ns (λ k m. EndsBelow c.args.image.now m k)) (sym c.new-ends.ensures) (table_none (λ k m. EndsBelow c.args.image.now m k))

pub loop-class-preserved : goal.loop-class-preserved
loop-class-preserved c =
    let here = subst (λ k. IsLeast c.ending.result (λ m. EndsBelow c.args.image.now m k)) c.class_number.ensures c.ending.ensures in
    rw c.push.ensures.items (least_push c.loop-class.class _ (λ k m. EndsBelow c.args.image.now m k) c.ending.result c.loop-class.invariant here)

pub returns : goal.returns
returns c = subst (λ n. AreLeast n c.loop-class.ends.items (λ k m. EndsBelow c.args.image.now m k))
    (omega (arith, c.loop-class.auto.class-end, c.loop-class-test.false)) c.loop-class.invariant
