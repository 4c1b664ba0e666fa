use Rattle.aom_machine_instructions.proofs.OnTop.{goes_not_else, goes_not_none, number_on_top}
use Rattle.aom_machine_instructions.proofs.going.going_number.Goals as goal

pub unreachable-requires : goal.unreachable-requires
unreachable-requires c = goes_not_none _ c.requires c.in_default.ensures.none

pub unreachable-requires-in_default-kind : goal.unreachable-requires-in_default-kind
unreachable-requires-in_default-kind c = goes_not_else c.in-Some.kind _ c.in-Some.ensures.some c.requires (λ x is. c.in_default-kind.not-Destroy x is)

pub returns : goal.returns
returns c = number_on_top _ _ c.in-Some.ensures.some c.in-Destroy.is
