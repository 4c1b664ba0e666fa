-- What is kept at a place is read there.
use Rattle.std.proofs.Common.{arith}
use Rattle.aom_verify.proofs.Keeping.{kept_stands, kept_there, length_shapes}
use Rattle.aom_verify.proofs.states.PlaceStates.kept_at.Goals as goal

pub index-requires : goal.index-requires
index-requires c =
    let within = rw (← c.self.view_is) at c.requires in
    omega (arith, within, c.self.inside.places.ok, length_shapes c.self.inside.entry_stacks c.self.inside.places.items)

pub returns-clause-shape : goal.returns-clause-shape
returns-clause-shape c =
    let within = rw (← c.self.view_is) at c.requires in
    rw (← c.self.view_is) (kept_there c.self.inside.entry_stacks c.self.inside.places.items c.args.place _ within c.index.ensures)

pub returns-clause-stands : goal.returns-clause-stands
returns-clause-stands c =
    let within = rw (← c.self.view_is) at c.requires in
    rw (← c.self.view_is) (kept_stands c.self.inside.entry_stacks c.self.inside.places.items c.args.place _ within c.index.ensures c.self.invariant)
