-- The edge that leads there, and differs.
use Rattle.aom_path_conflicts.proofs.Edges as edges
use Rattle.aom_path_conflicts.proofs.conflict.edge_differs.Goals as goal

pub returns-in-Some-clause-some : goal.returns-in-Some-clause-some
returns-in-Some-clause-some c =
    rw c.in-Some.is (edges.edge_differs c.args.here.now.registers c.args.place c.in-Some.edge c.first_apart.result c.if-edge-place.true c.first_apart.ensures.some)
