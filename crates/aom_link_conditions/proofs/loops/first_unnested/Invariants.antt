use Rattle.aom_link_conditions.specs.Loops.{LoopsNest}
use Rattle.aom_link_conditions.proofs.Each.{EachBelow}
use Rattle.aom_link_conditions.proofs.loops.first_unnested.Given as goal

abbrev pub invariant-loop-number : goal.invariant-loop-number
invariant-loop-number l = EachBelow (λ _ d. LoopsNest d.code) l.methods l.number
