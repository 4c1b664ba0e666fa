-- What was looked up so far is declared nowhere.
use Rattle.std.proofs.Common.{◌≡◌, drop}
use Rattle.aom_source_names.specs.Meanings.{first_matching}
use Rattle.aom_source_names.proofs.names.Names.first_matching.Given as goal

abbrev pub invariant-loop-one : goal.invariant-loop-one
invariant-loop-one l = record { later : first_matching l.self l.fn.at l.classes (drop l.one-index l.wanted) ≡ first_matching l.self l.fn.at l.classes l.wanted }
