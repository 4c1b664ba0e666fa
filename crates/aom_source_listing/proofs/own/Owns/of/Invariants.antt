-- What is kept of the classes so far is right.
use Rattle.std.proofs.Common.{All}
use Rattle.aom_source_listing.specs.Own.{IsOwn}
use Rattle.aom_source_listing.proofs.own.Owns.of.Given as goal

abbrev pub invariant-loop-class : goal.invariant-loop-class
invariant-loop-class l = All (IsOwn l.names) l.classes.items
