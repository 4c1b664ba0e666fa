use Rattle.std.proofs.Common.{◌≡◌}
use Rattle.aom_link_conditions.specs.Overriding.{leads_in, leads_to}
use Rattle.aom_warnings.proofs.called.leads_to.Given as goal

abbrev pub invariant-loop-here : goal.invariant-loop-here
invariant-loop-here l = leads_to l.fn.image l.fn.over l.method ≡ leads_in l.fn.image l.left l.here l.method

abbrev pub decreases-loop-here : goal.decreases-loop-here
decreases-loop-here l = l.left
