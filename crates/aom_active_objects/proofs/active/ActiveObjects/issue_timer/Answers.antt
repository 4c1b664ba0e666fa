use Rattle.aom_active_objects.proofs.Calls.{has_place, sets_timer}
use Rattle.aom_active_objects.proofs.active.ActiveObjects.issue_timer.Goals as goal

pub after-requires-clause-below : goal.after-requires-clause-below
after-requires-clause-below c = has_place _ c.self.view_is c.self.invariant c.args.id _ c.in_order.ensures.entries c.requires

pub invariant_of-self : goal.invariant_of-self
invariant_of-self c = (sets_timer _ c.self.view_is
    c.self.invariant c.args.id c.issue.new.self c.after.new.self c.args.due c.in_order.ensures.timers c.requires c.issue.ensures.issued c.after.ensures).whole

pub returns : goal.returns
returns c = (sets_timer _ c.self.view_is c.self.invariant c.args.id _ _ _ c.in_order.ensures.timers c.requires c.issue.ensures.issued c.after.ensures).times
