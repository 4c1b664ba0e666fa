-- What is raised so far, and what is left to raise.
use Rattle.std.proofs.Common.{cond, length, ℕ, ◌<◌, ◌≡◌}
use Rattle.std.specs.Prelude.{max}
use Rattle.aom_link_conditions.specs.Overriding.{leads_in}
use Rattle.aom_roles.specs.Tables.{at}
use Rattle.aom_budget.specs.Greatest.{is_body}
use Rattle.aom_budget.proofs.raising.raise_called.Given as goal

abbrev pub invariant-loop-here : goal.invariant-loop-here
invariant-loop-here l = record {
  size : length l.table ≡ length l.fn.table;
  each : (k : ℕ) → k < length l.fn.table →
      max (at 0 l.table k) (cond (leads_in l.image l.left l.here k) l.number 0) ≡ max (at 0 l.fn.table k) (cond (is_body l.image l.fn.method k) l.number 0);
}

abbrev pub decreases-loop-here : goal.decreases-loop-here
decreases-loop-here l = l.left
