use Rattle.aom_roles.specs.Classes.{ClassOrdered}
use Rattle.aom_roles.proofs.Each.{none_first}
use Rattle.aom_roles.proofs.class_order.is_each_ordered.Goals as goal

pub returns : goal.returns
returns c = none_first (ClassOrdered c.args.image.now) _ _ _ c.is_none.ensures c.first_unordered.ensures
