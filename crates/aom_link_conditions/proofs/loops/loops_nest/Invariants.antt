use Rattle.aom_link_conditions.proofs.Nesting.{Scanned}
use Rattle.aom_link_conditions.proofs.loops.loops_nest.Given as goal

abbrev pub invariant-loop-place : goal.invariant-loop-place
invariant-loop-place l = Scanned l.code l.place l.around.items
