-- The methods so far are answered.
use Rattle.aom_diagnostic_commands.specs.EachMethod.{RefusesFirst}
use Rattle.aom_diagnostic_commands.proofs.refusals.refusals_of.Given as goal

abbrev pub invariant-loop-index : goal.invariant-loop-index
invariant-loop-index l = RefusesFirst l.linked l.index l.refusals.items
