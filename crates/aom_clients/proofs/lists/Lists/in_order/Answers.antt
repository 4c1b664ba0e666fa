use Rattle.aom_clients.proofs.RingSteps.{sound-seen}
use Rattle.aom_clients.proofs.lists.Lists.in_order.Goals as goal

pub returns : goal.returns
returns c = sound-seen _ _ _ _ _ c.self.view_is c.self.invariant
