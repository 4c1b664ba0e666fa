use Rattle.aom_link_conditions.specs.Jumps.{JumpIsValid}
use Rattle.aom_link_conditions.proofs.Each.{EachBelow}
use Rattle.aom_link_conditions.proofs.jumps.first_jumping.Given as goal

abbrev pub invariant-loop-number : goal.invariant-loop-number
invariant-loop-number l = EachBelow (λ _ d. JumpIsValid d.code) l.methods l.number
