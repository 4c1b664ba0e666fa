use Rattle.std.proofs.Common.{w32}
use Rattle.std.proofs.lemmas.Int.{to_z-of_z}
use Rattle.aom_active_objects.proofs.Calls.{completes_it}
use Rattle.aom_active_objects.proofs.active.ActiveObjects.complete.Goals as goal

pub invariant_of-self : goal.invariant_of-self
invariant_of-self c = (completes_it _ c.self.view_is c.self.invariant c.args.id
    c.complete.new.self c.mark.new.schedule c.stop_timer.new.timers c.args.outcome _ c.is_ready-ready.result (to_z-of_z w32 c.args.outcome c.ranges.outcome)
    c.requires c.complete.ensures.completed c.is_ready-ready.ensures.ready c.mark.ensures c.stop_timer.ensures).whole

pub returns : goal.returns
returns c = (completes_it _ c.self.view_is c.self.invariant c.args.id
    c.complete.new.self c.mark.new.schedule c.stop_timer.new.timers c.args.outcome _ c.is_ready-ready.result (to_z-of_z w32 c.args.outcome c.ranges.outcome)
    c.requires c.complete.ensures.completed c.is_ready-ready.ensures.ready c.mark.ensures c.stop_timer.ensures).makes
