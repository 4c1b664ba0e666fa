-- What is raised so far, and what is left to raise.
use Rattle.std.proofs.Common.{cond, length, ℕ, ◌<◌, ◌≡◌}
use Rattle.std.specs.Prelude.{max}
use Rattle.aom_roles.specs.Families.{descends}
use Rattle.aom_roles.specs.Tables.{at}
use Rattle.aom_budget.proofs.Climbing.{generations, some_descends}
use Rattle.aom_budget.proofs.raising.raise_class.Given as goal

abbrev pub invariant-loop-here : goal.invariant-loop-here
invariant-loop-here l = record {
  size : length l.table ≡ length l.fn.table;
  each : (c : ℕ) → c < length l.fn.table →
      max (at 0 l.table c) (cond (some_descends l.image l.here c) l.number 0) ≡ max (at 0 l.fn.table c) (cond (descends l.image l.fn.class c) l.number 0);
}

abbrev pub decreases-loop-here : goal.decreases-loop-here
decreases-loop-here l = generations l.here
