-- The refusals so far are told at places of the text.
use Rattle.std.proofs.Common.{All}
use Rattle.aom_source.specs.Refusals.{IsToldIn}
use Rattle.aom_source.proofs.translating.refusals_of.Given as goal

abbrev pub invariant-loop-fault : goal.invariant-loop-fault
invariant-loop-fault l = All (IsToldIn l.tokens.bytes) l.refusals.items
