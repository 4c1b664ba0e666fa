-- Descending is an order.
use Rattle.aom_inheritance.proofs.RolesLemmas.{itself, no_higher, through}
use Rattle.aom_inheritance.specs.Laws.{DescendingIsAnOrder}

pub descending_is_an_order : DescendingIsAnOrder
descending_is_an_order = record { itself = itself; through = through; lower = no_higher }
