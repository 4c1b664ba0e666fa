use Rattle.aom_active_objects.proofs.Calls.{sets_active}
use Rattle.aom_active_objects.proofs.active.ActiveObjects.set_active.Goals as goal

pub invariant_of-self : goal.invariant_of-self
invariant_of-self c = (sets_active _ c.self.view_is c.self.invariant
    c.args.id c.set_active.new.self c.mark.new.schedule c.is_ready.result c.requires c.set_active.ensures.changed c.is_ready.ensures.ready c.mark.ensures).whole

pub returns : goal.returns
returns c = (sets_active _ c.self.view_is c.self.invariant
    c.args.id c.set_active.new.self c.mark.new.schedule c.is_ready.result c.requires c.set_active.ensures.changed c.is_ready.ensures.ready c.mark.ensures).makes
