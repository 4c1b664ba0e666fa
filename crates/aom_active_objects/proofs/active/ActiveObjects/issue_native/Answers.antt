use Rattle.aom_active_objects.proofs.Calls.{issues_native}
use Rattle.aom_active_objects.proofs.active.ActiveObjects.issue_native.Goals as goal

pub invariant_of-self : goal.invariant_of-self
invariant_of-self c = (issues_native _ c.self.view_is c.self.invariant c.args.id c.issue.new.self c.requires c.issue.ensures.issued).whole

pub returns : goal.returns
returns c = (issues_native _ c.self.view_is c.self.invariant c.args.id c.issue.new.self c.requires c.issue.ensures.issued).makes
