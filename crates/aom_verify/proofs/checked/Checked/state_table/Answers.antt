-- The states that are kept for a method are the strongest.
use Rattle.std.proofs.Common.{◌<◌, IsSome, [], length, ◌∙◌, sym, subst, arith}
use Rattle.aom_image.specs.Image.{Image}
use Rattle.aom_image.specs.Views.{method_at}
use Rattle.aom_verify.proofs.AbstractStateLemmas.{at_within}
use Rattle.aom_verify.proofs.StaticBoundsLemmas.{has_states}
use Rattle.aom_verify.proofs.checked.Checked.state_table.Goals as goal

pub index-requires : goal.index-requires
index-requires c =
    let some : IsSome (method_at c.self.inside.linked c.args.method) = subst (λ (q : Image). IsSome (method_at q c.args.method)) (sym c.self.view_is) c.requires in
    omega (arith, has_states _ c.self.inside.state_tables.items c.args.method (c.self.invariant.each c.args.method some), c.number.ensures.value)

pub returns : goal.returns
returns c =
    let some : IsSome (method_at c.self.inside.linked c.args.method) = subst (λ (q : Image). IsSome (method_at q c.args.method)) (sym c.self.view_is) c.requires in
    let strongest = c.self.invariant.each c.args.method some in
    let within : c.number.result < length c.self.inside.state_tables.items =
    omega (arith, has_states _ c.self.inside.state_tables.items c.args.method strongest, c.number.ensures.value) in
    let read = c.index.ensures ∙ at_within [] _ c.self.inside.state_tables.items c.number.result within in
    rw (← c.self.view_is, read, c.number.ensures.value) strongest
