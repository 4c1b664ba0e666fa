use Rattle.aom_link_conditions.specs.Calls.{RunsBelow}
use Rattle.aom_link_conditions.proofs.Each.{EachBelow}
use Rattle.aom_link_conditions.proofs.call_order.first_early.Given as goal

abbrev pub invariant-loop-place : goal.invariant-loop-place
invariant-loop-place l = EachBelow (λ _. RunsBelow l.image l.number l.method.class) l.code l.place
