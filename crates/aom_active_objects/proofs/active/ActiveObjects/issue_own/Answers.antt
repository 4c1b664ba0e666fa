use Rattle.std.proofs.Common.{w32}
use Rattle.std.proofs.lemmas.Int.{to_z-of_z}
use Rattle.aom_active_objects.proofs.Calls.{issues_own}
use Rattle.aom_active_objects.proofs.active.ActiveObjects.issue_own.Goals as goal

pub invariant_of-self : goal.invariant_of-self
invariant_of-self c = (issues_own _ c.self.view_is c.self.invariant c.args.id c.issue.new.self c.complete.new.self c.args.code _
    (to_z-of_z w32 c.args.code c.ranges.code) c.requires c.issue.ensures.issued c.complete.ensures.completed).whole

pub returns : goal.returns
returns c = (issues_own _ c.self.view_is c.self.invariant c.args.id c.issue.new.self c.complete.new.self c.args.code _
    (to_z-of_z w32 c.args.code c.ranges.code) c.requires c.issue.ensures.issued c.complete.ensures.completed).makes
