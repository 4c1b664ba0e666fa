use Rattle.aom_active_objects.proofs.Calls.{removes_it}
use Rattle.aom_active_objects.proofs.active.ActiveObjects.remove.Goals as goal

pub invariant_of-self : goal.invariant_of-self
invariant_of-self c = (removes_it _ c.self.view_is c.self.invariant
    c.args.id c.remove-2.new.self c.remove.new.self c.stop_timer.new.timers c.remove-2.ensures.gone c.remove.ensures c.stop_timer.ensures).whole

pub returns : goal.returns
returns c = (removes_it _ c.self.view_is c.self.invariant c.args.id _ _ _ c.remove-2.ensures.gone c.remove.ensures c.stop_timer.ensures).removes
