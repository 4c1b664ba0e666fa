use Rattle.std.proofs.Common.{arith}
use Rattle.aom_verify.proofs.Keeping.{length_shapes}
use Rattle.aom_verify.proofs.states.PlaceStates.len.Goals as goal

pub returns : goal.returns
returns c = rw (← c.self.view_is) (omega (arith, c.len.ensures, c.self.inside.places.ok, length_shapes c.self.inside.entry_stacks c.self.inside.places.items))
