use Rattle.std.proofs.Common.{subst, sym, arith}
use Rattle.aom_link_conditions.specs.Orders.{AreLeast, IsLeast, ReachesAll}
use Rattle.aom_link_conditions.proofs.Ordering.{least_push, table_none}
use Rattle.aom_link_conditions.proofs.orders.greatest_each.Goals as goal

pub push-requires : goal.push-requires
push-requires c = omega (arith, c.loop-class.invariant.all, c.loop-class-test.true)

pub loop-class-init : goal.loop-class-init
loop-class-init c = subst (λ ns. AreLeast 0 ns (λ k m. ReachesAll c.args.image.now c.args.table.now k m))
    (sym c.new-most.ensures) (table_none (λ k m. ReachesAll c.args.image.now c.args.table.now k m))

pub loop-class-preserved : goal.loop-class-preserved
loop-class-preserved c =
    let here = subst (λ k. IsLeast c.greatest.result (λ m. ReachesAll c.args.image.now c.args.table.now k m)) c.class_number.ensures c.greatest.ensures in
    rw c.push.ensures.items (least_push _ _ (λ k m. ReachesAll c.args.image.now c.args.table.now k m) c.greatest.result c.loop-class.invariant here)

pub returns : goal.returns
returns c = record {
  few = c.classes-classes.ensures.well_formed.classes.count;
  most = subst (λ n. AreLeast n c.loop-class.most.items (λ k m. ReachesAll c.args.image.now c.args.table.now k m))
      (omega (arith, c.loop-class.auto.class-end, c.loop-class-test.false)) c.loop-class.invariant;
}
