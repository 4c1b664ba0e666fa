use Rattle.aom_frames.specs.declared.task.TaskKind.TheVariants.{Trapped}
use Rattle.aom_frames.proofs.Slots.{dropped_now}
use Rattle.aom_frames.proofs.kinds.TaskKinds.drop_last.Goals as goal

pub returns : goal.returns
returns c = dropped_now Trapped c.self.inside.kinds.items _ _ c.self.view_is c.requires
