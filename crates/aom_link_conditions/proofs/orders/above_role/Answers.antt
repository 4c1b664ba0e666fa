use Rattle.std.proofs.Common.{◌∙◌, sym}
use Rattle.aom_link_conditions.specs.Roles.{fills_role}
use Rattle.aom_link_conditions.proofs.Ordering.{least_all, least_no, least_none, least_yes}
use Rattle.aom_link_conditions.proofs.orders.above_role.Goals as goal
use Rattle.aom_link_conditions.proofs.orders.above_role.Goals.{then-fills_role, else-fills_role}

pub loop-number-init : goal.loop-number-init
loop-number-init c = least_none (fills_role c.args.class c.args.role) c.args.methods.now

pub loop-number-preserved : goal.loop-number-preserved
loop-number-preserved c = elim c.if-fills_role.branch [
  | then-fills_role w ↦ rw w.above-is (least_yes (fills_role c.args.class c.args.role)
      c.args.methods.now c.loop-number.number _ c.loop-number-test.true c.index-methods-number.is (sym c.fills_role.ensures ∙ w.if-fills_role.true))
  | else-fills_role w ↦ rw w.above-is (least_no (fills_role c.args.class c.args.role) c.args.methods.now c.loop-number.above
      c.loop-number.number _ c.loop-number.invariant c.loop-number-test.true c.index-methods-number.is (sym c.fills_role.ensures ∙ w.if-fills_role.false))
]

pub returns : goal.returns
returns c = least_all (fills_role c.args.class c.args.role) c.args.methods.now c.loop-number.above _ c.loop-number.invariant c.loop-number-test.false
