use Rattle.aom_frames.specs.declared.task.TaskKind.TheVariants.{Trapped}
use Rattle.std.proofs.Common.{◌<◌, length, arith}
use Rattle.std.proofs.lemmas.List.{length-set}
use Rattle.aom_frames.proofs.Slots.{pushed_now, seen}
use Rattle.aom_frames.proofs.kinds.TaskKinds.push.Goals as goal

pub index_mut-requires : goal.index_mut-requires
index_mut-requires c =
    let many = seen Trapped c.self.inside.kinds.items _ _ c.self.view_is in
    omega (arith, many, c.requires, c.self.invariant.1, c.self.inside.kinds.ok.0)

pub invariant_of-self : goal.invariant_of-self
invariant_of-self c =
    let many = seen Trapped c.self.inside.kinds.items _ _ c.self.view_is in
    let long = length-set c.self.inside.kinds.items c.self.inside.count c.args.kind in
    (omega (arith, many, c.requires), omega (arith, long, c.self.invariant.1))

pub returns : goal.returns
returns c =
    let many = seen Trapped c.self.inside.kinds.items _ _ c.self.view_is in
    let within : c.self.inside.count < length c.self.inside.kinds.items = omega (arith, many, c.requires, c.self.invariant.1) in
    pushed_now Trapped _ c.self.inside.kinds.items _ _ c.self.view_is within
