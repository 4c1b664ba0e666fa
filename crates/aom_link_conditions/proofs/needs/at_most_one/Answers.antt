use Rattle.std.proofs.Common.{◌∙◌, sym}
use Rattle.aom_link_conditions.specs.Roles.{fills_role}
use Rattle.aom_link_conditions.proofs.Each.{counted, counted_yes, counted_no}
use Rattle.aom_link_conditions.proofs.needs.at_most_one.Goals as goal
use Rattle.aom_link_conditions.proofs.needs.at_most_one.Goals.{then-fills_role, else-fills_role}

pub loop-method-preserved : goal.loop-method-preserved
loop-method-preserved c = elim c.if-fills_role.branch [
  | then-fills_role w ↦ w.count-is ∙ counted_yes (fills_role c.args.class c.args.role) _ _ _ _ c.loop-method.invariant c.loop-method-test.true c.method-item.is
      (sym c.fills_role.ensures ∙ w.if-fills_role.true)
  | else-fills_role w ↦ w.count-is ∙ counted_no (fills_role c.args.class c.args.role) _ _ _ _ c.loop-method.invariant c.loop-method-test.true c.method-item.is
      (sym c.fills_role.ensures ∙ w.if-fills_role.false)
]

pub returns : goal.returns
returns c = counted (fills_role c.args.class c.args.role) _ _ _ _ c.loop-method.invariant c.loop-method-test.false
