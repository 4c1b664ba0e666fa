-- What is kept of a place is the state there, and past the last there is none.
use Rattle.std.proofs.Common.{◌<◌, length, None, Some, ap, sym, ◌∙◌, arith}
use Rattle.aom_verify.proofs.AbstractStateLemmas.{at_past}
use Rattle.aom_verify.specs.States.{shapes}
use Rattle.aom_verify.proofs.Keeping.{kept_there, length_shapes}
use Rattle.aom_verify.proofs.states.PlaceStates.view.Goals as goal

pub index-requires : goal.index-requires
index-requires c =
    let within = rw (← c.self.view_is) at c.len.ensures in
    omega (arith, within, c.if-len-place.false, length_shapes c.self.inside.entry_stacks c.self.inside.places.items)

pub returns-then-len-place : goal.returns-then-len-place
returns-then-len-place c = sym (at_past None (shapes c.args.self.now) c.args.place (omega (arith, c.if-len-place.true, c.len.ensures)))

pub returns-in-None : goal.returns-in-None
returns-in-None c =
    let within : c.args.place < length (shapes c.args.self.now) = omega (arith, c.if-len-place.false, c.len.ensures) in
    let inside = rw (← c.self.view_is) at within in
    let there = kept_there c.self.inside.entry_stacks c.self.inside.places.items c.args.place _ inside c.index.ensures in
    rw (← c.self.view_is) (rw c.in-None.is at there)

pub returns-in-Some : goal.returns-in-Some
returns-in-Some c =
    let within : c.args.place < length (shapes c.args.self.now) = omega (arith, c.if-len-place.false, c.len.ensures) in
    let inside = rw (← c.self.view_is) at within in
    let there = kept_there c.self.inside.entry_stacks c.self.inside.places.items c.args.place _ inside c.index.ensures in
    rw (← c.self.view_is) (ap Some c.new.ensures ∙ rw c.in-Some.is at there)
