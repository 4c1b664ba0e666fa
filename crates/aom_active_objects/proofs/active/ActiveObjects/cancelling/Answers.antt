use Rattle.aom_active_objects.proofs.Calls.{begins_cancel}
use Rattle.aom_active_objects.proofs.active.ActiveObjects.cancelling.Goals as goal

pub invariant_of-self : goal.invariant_of-self
invariant_of-self c = (begins_cancel _ c.self.view_is c.self.invariant c.args.id _ _ c.requires c.cancelling.ensures.changed c.mark.ensures).whole

pub returns : goal.returns
returns c = (begins_cancel _ c.self.view_is c.self.invariant c.args.id _ c.mark.new.schedule c.requires c.cancelling.ensures.changed c.mark.ensures).makes
