use Rattle.aom_frames.specs.declared.task.TaskKind.TheVariants.{Trapped}
use Rattle.aom_frames.proofs.Slots.{seen}
use Rattle.aom_frames.proofs.kinds.TaskKinds.len.Goals as goal

pub returns : goal.returns
returns c = seen Trapped c.self.inside.kinds.items _ _ c.self.view_is
