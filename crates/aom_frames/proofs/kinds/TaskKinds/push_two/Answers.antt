use Rattle.std.proofs.Common.{◌≡◌, ◌<◌, ◌+◌, length, ap, sym, subst, ◌∙◌, slice_set, arith}
use Rattle.std.proofs.lemmas.List.{length-set}
use Rattle.aom_frames.specs.Slots.{down}
use Rattle.aom_frames.specs.declared.task.TaskKind.TheVariants.{Trapped}
use Rattle.aom_frames.proofs.Slots.{pushed_now, seen}
use Rattle.aom_frames.proofs.kinds.TaskKinds.push_two.Goals as goal

pub index_mut-requires : goal.index_mut-requires
index_mut-requires c =
    let many = seen Trapped c.self.inside.kinds.items _ _ c.self.view_is in
    omega (arith, many, c.requires, c.self.invariant.1, c.self.inside.kinds.ok.0)

pub index_mut-requires-2 : goal.index_mut-requires-2
index_mut-requires-2 c =
    let many = seen Trapped c.self.inside.kinds.items _ _ c.self.view_is in
    omega (arith, many, c.requires, c.self.invariant.1, c.self.inside.kinds.ok.0)

pub invariant_of-self : goal.invariant_of-self
invariant_of-self c =
    let xs = c.self.inside.kinds.items in
    let n = c.self.inside.count in
    let many = seen Trapped xs _ _ c.self.view_is in
    let long = length-set (slice_set xs n c.args.lower) (n + 1) c.args.upper ∙ length-set xs n c.args.lower in
    (omega (arith, many, c.requires), omega (arith, long, c.self.invariant.1))

pub returns : goal.returns
returns c =
    let n = c.self.inside.count in
    let xs = c.self.inside.kinds.items in
    let many = seen Trapped xs _ _ c.self.view_is in
    let within : n + 1 < length xs = omega (arith, many, c.requires, c.self.invariant.1) in
    let lower : n < length xs = omega (arith, within) in
    let upper = subst (λ k. n + 1 < k) (sym (length-set xs n c.args.lower)) within in
    let two : n + 2 ≡ n + 1 + 1 = omega arith in
    ap (λ k. down Trapped (slice_set (slice_set xs n c.args.lower) (n + 1) c.args.upper) k) two
    ∙ pushed_now Trapped c.args.upper (slice_set xs n c.args.lower) _ (n + 1) (pushed_now Trapped c.args.lower xs _ n c.self.view_is lower) upper
