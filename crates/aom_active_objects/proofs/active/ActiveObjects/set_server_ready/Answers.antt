use Rattle.aom_active_objects.proofs.Calls.{asks_it}
use Rattle.aom_active_objects.proofs.active.ActiveObjects.set_server_ready.Goals as goal

pub invariant_of-self : goal.invariant_of-self
invariant_of-self c = (asks_it _ c.self.view_is c.self.invariant c.args.id _ _ c.args.is_asked c.requires c.signal.ensures c.mark.ensures).whole

pub returns : goal.returns
returns c = (asks_it _ c.self.view_is c.self.invariant c.args.id _ c.mark.new.schedule c.args.is_asked c.requires c.signal.ensures c.mark.ensures).asks
