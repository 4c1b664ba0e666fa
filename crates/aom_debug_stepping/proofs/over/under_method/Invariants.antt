-- The last method of those so far.
use Rattle.std.proofs.Common.{◌≡◌}
use Rattle.std.specs.Prelude.{reverse}
use Rattle.aom_debug_stepping.specs.Over.{last_run}
use Rattle.aom_debug_stepping.proofs.over.under_method.Given as goal

abbrev pub invariant-loop-depth : goal.invariant-loop-depth
invariant-loop-depth l = l.under ≡ last_run (reverse l.parts.stack.tasks) l.depth
