use Rattle.aom_active_objects.proofs.Calls.{ends_cancel}
use Rattle.aom_active_objects.proofs.active.ActiveObjects.cancelled.Goals as goal

pub invariant_of-self : goal.invariant_of-self
invariant_of-self c = (ends_cancel _ c.self.view_is c.self.invariant c.args.id _ c.requires.cancelled c.requires.completed c.wait_for.ensures.taken).whole

pub returns : goal.returns
returns c = (ends_cancel _ c.self.view_is c.self.invariant c.args.id _ c.requires.cancelled c.requires.completed c.wait_for.ensures.taken).makes
