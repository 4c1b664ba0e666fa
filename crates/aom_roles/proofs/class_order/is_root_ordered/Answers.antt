use Rattle.aom_roles.proofs.Each.{none_root}
use Rattle.aom_roles.proofs.class_order.is_root_ordered.Goals as goal

pub returns : goal.returns
returns c = none_root c.args.image.now _ _ c.is_none.ensures c.session_root.ensures
