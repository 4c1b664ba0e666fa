use Rattle.std.proofs.Common.{◌∙◌}
use Rattle.aom_active_objects.proofs.Calls.{is_outstanding}
use Rattle.aom_active_objects.proofs.active.ActiveObjects.is_pending.Goals as goal

pub returns : goal.returns
returns c = λ asked queues stands. c.is_pending.ensures ∙ is_outstanding _ c.self.view_is c.self.invariant c.args.id asked queues stands
