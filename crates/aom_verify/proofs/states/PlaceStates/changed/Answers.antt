-- What stood stands, so the states stay.
use Rattle.std.proofs.Common.{arith}
use Rattle.aom_verify.proofs.AbstractStateLemmas.{length_listed}
use Rattle.aom_verify.proofs.Keeping.{kept_extended, same_shapes}
use Rattle.aom_verify.proofs.states.PlaceStates.changed.Goals as goal

pub changed-requires-clause-room : goal.changed-requires-clause-room
changed-requires-clause-room c = omega (arith, c.requires.room, length_listed c.args.entry_stack.height c.args.self.now.nodes c.args.entry_stack.top)

pub invariant_of-self : goal.invariant_of-self
invariant_of-self c = kept_extended _ _ _ c.changed.ensures.kept c.self.invariant

pub returns-clause-same : goal.returns-clause-same
returns-clause-same c = rw (← c.self.view_is) (same_shapes _ _ _ c.changed.ensures.kept c.self.invariant.stand)
