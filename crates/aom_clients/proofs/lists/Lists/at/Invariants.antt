-- The node is the one behind as many others as were passed.
use Rattle.std.proofs.Common.{◌≡◌}
use Rattle.std.specs.Prelude.{slice_get}
use Rattle.aom_clients.specs.Lists.{list_at}
use Rattle.aom_clients.proofs.lists.Lists.at.Given as goal

abbrev pub invariant-loop : goal.invariant-loop
invariant-loop l = l.node ≡ slice_get (list_at l.self l.list) l.counter
