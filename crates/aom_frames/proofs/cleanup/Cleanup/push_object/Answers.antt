use Rattle.std.proofs.lemmas.Grind.{common_steps}
use Rattle.std.proofs.Common.{arith, inl}
use Rattle.aom_frames.proofs.Counts.{has_room}
use Rattle.aom_frames.proofs.cleanup.Cleanup.push_object.Goals as goal

pub push-requires : goal.push-requires
push-requires c = (omega arith, has_room _ _ _ _ c.deref_mut.ensures.value c.self.view_is c.self.invariant (inl c.requires))

pub returns : goal.returns
returns c = grind (arith, common_steps)
