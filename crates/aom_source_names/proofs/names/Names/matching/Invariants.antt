-- The declarations among the tokens so far.
use Rattle.std.proofs.Common.{◌≡◌}
use Rattle.aom_source_names.specs.Meanings.{matching_in}
use Rattle.aom_source_names.proofs.names.Names.matching.Given as goal

abbrev pub invariant-loop-declared : goal.invariant-loop-declared
invariant-loop-declared l = record { so_far : l.found.items ≡ matching_in l.self l.fn.at l.classes l.wanted l.declared }
