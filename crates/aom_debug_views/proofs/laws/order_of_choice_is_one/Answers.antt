use Rattle.aom_debug_views.proofs.Orders.{orders_are_one}
use Rattle.aom_debug_views.proofs.laws.order_of_choice_is_one.Goals as goal

pub returns : goal.returns
returns c = orders_are_one
