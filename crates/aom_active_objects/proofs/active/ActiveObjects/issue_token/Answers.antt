use Rattle.aom_active_objects.proofs.Calls.{issues_token}
use Rattle.aom_active_objects.proofs.active.ActiveObjects.issue_token.Goals as goal

pub invariant_of-self : goal.invariant_of-self
invariant_of-self c = (issues_token _ c.self.view_is c.self.invariant c.args.id 0 c.issue.new.self c.requires c.issue.ensures.issued).whole

pub returns : goal.returns
returns c order = (issues_token _ c.self.view_is c.self.invariant c.args.id order c.issue.new.self c.requires c.issue.ensures.issued).makes
