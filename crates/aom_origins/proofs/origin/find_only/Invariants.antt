-- Of the places so far none brings it about, or the found one alone.
use Rattle.aom_origins.proofs.Finding.{SoFar}
use Rattle.aom_origins.proofs.origin.find_only.Given as goal

abbrev pub invariant-loop-from : goal.invariant-loop-from
invariant-loop-from l = SoFar l.linked l.method l.states l.subject l.now l.found l.from
