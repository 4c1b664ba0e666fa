use Rattle.aom_active_objects.proofs.Calls.{aborts}
use Rattle.aom_active_objects.proofs.active.ActiveObjects.abort.Goals as goal

pub invariant_of-self : goal.invariant_of-self
invariant_of-self c = (aborts _ c.self.view_is c.self.invariant c.args.id _ _ c.requires c.abort_request.ensures c.stop_timer.ensures).whole

pub returns : goal.returns
returns c = (aborts _ c.self.view_is c.self.invariant c.args.id _ c.stop_timer.new.timers c.requires c.abort_request.ensures c.stop_timer.ensures).makes
