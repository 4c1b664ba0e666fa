use Rattle.std.proofs.lemmas.Grind.{common_steps}
use Rattle.std.proofs.Common.{arith, inr}
use Rattle.aom_frames.proofs.Counts.{has_room}
use Rattle.aom_frames.proofs.cleanup.Cleanup.mark.Goals as goal

pub push-requires : goal.push-requires
push-requires c = (omega arith, has_room _ _ _ _ c.deref_mut.ensures.value c.self.view_is c.self.invariant (inr c.requires))

pub invariant_of-self : goal.invariant_of-self
invariant_of-self c = grind (arith, common_steps)

pub returns : goal.returns
returns c = grind (arith, common_steps)
