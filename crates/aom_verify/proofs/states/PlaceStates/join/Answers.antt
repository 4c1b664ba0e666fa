-- The four ways in which a flow is met into a state, each by its lemma.
use Rattle.std.proofs.Common.{◌<◌, length, ◌∙◌, refl, arith}
use Rattle.aom_verify.proofs.Ahead.{set_but}
use Rattle.aom_verify.proofs.Keeping.{first_joined, kept_first, kept_lower, length_shapes, lower_joined, never_joined, none_joined, read_kept}
use Rattle.aom_verify.proofs.states.PlaceStates.join.Goals as goal

pub index-requires : goal.index-requires
index-requires c =
    let within = rw (← c.self.view_is) at c.requires.within in
    omega (arith, within, length_shapes c.self.inside.entry_stacks c.self.inside.places.items)

pub index_mut-requires : goal.index_mut-requires
index_mut-requires c =
    let within = rw (← c.self.view_is) at c.requires.within in
    omega (arith, within, length_shapes c.self.inside.entry_stacks c.self.inside.places.items)

pub index_mut-requires-in-Ok-Some : goal.index_mut-requires-in-Ok-Some
index_mut-requires-in-Ok-Some c =
    let within = rw (← c.self.view_is) at c.requires.within in
    omega (arith, within, length_shapes c.self.inside.entry_stacks c.self.inside.places.items)

pub invariant_of-self : goal.invariant_of-self
invariant_of-self c =
    let within = rw (← c.self.view_is) at c.requires.within in
    let inside : c.args.to < length c.self.inside.places.items = omega (arith, within, length_shapes c.self.inside.entry_stacks c.self.inside.places.items) in
    let here = read_kept _ _ _ inside c.index.ensures ∙ c.in_default.is in
    kept_first _ _ _ _ inside c.self.invariant here (rw (← c.self.view_is) at c.requires.few) (rw (← c.self.view_is) at c.requires.stands)

pub invariant_of-self-in-Ok-Some : goal.invariant_of-self-in-Ok-Some
invariant_of-self-in-Ok-Some c =
    let within = rw (← c.self.view_is) at c.requires.within in
    let inside : c.args.to < length c.self.inside.places.items = omega (arith, within, length_shapes c.self.inside.entry_stacks c.self.inside.places.items) in
    let here = read_kept _ _ _ inside c.index.ensures ∙ c.in-Some.is in
    kept_lower _ _ _ _ inside _ _ c.self.invariant here (rw c.in-Ok-Some.field-0-is at c.in-Ok-Some.ensures.ok)

pub returns-in_default-clause-ok : goal.returns-in_default-clause-ok
returns-in_default-clause-ok c =
    let within = rw (← c.self.view_is) at c.requires.within in
    let inside : c.args.to < length c.self.inside.places.items = omega (arith, within, length_shapes c.self.inside.entry_stacks c.self.inside.places.items) in
    let here = read_kept _ _ _ inside c.index.ensures ∙ c.in_default.is in
    rw (← c.self.view_is) (first_joined _ _ _ _ inside here)

pub returns-in-Ok-None-clause-ok : goal.returns-in-Ok-None-clause-ok
returns-in-Ok-None-clause-ok c =
    let within = rw (← c.self.view_is) at c.requires.within in
    let inside : c.args.to < length c.self.inside.places.items = omega (arith, within, length_shapes c.self.inside.entry_stacks c.self.inside.places.items) in
    let here = read_kept _ _ _ inside c.index.ensures ∙ c.in-Some.is in
    rw (← c.self.view_is) (none_joined _ _ _ _ inside _ here (rw c.in-Ok-None.field-0-is at c.in-Ok-None.ensures.ok))

pub returns-in-Ok-Some-clause-ok : goal.returns-in-Ok-Some-clause-ok
returns-in-Ok-Some-clause-ok c =
    let within = rw (← c.self.view_is) at c.requires.within in
    let inside : c.args.to < length c.self.inside.places.items = omega (arith, within, length_shapes c.self.inside.entry_stacks c.self.inside.places.items) in
    let here = read_kept _ _ _ inside c.index.ensures ∙ c.in-Some.is in
    rw (← c.self.view_is) (lower_joined _ _ _ _ inside _ _ here (rw c.in-Ok-Some.field-0-is at c.in-Ok-Some.ensures.ok))

pub returns-in-Err-clause-err : goal.returns-in-Err-clause-err
returns-in-Err-clause-err c =
    let within = rw (← c.self.view_is) at c.requires.within in
    let inside : c.args.to < length c.self.inside.places.items = omega (arith, within, length_shapes c.self.inside.entry_stacks c.self.inside.places.items) in
    let here = read_kept _ _ _ inside c.index.ensures ∙ c.in-Some.is in
    rw (← c.self.view_is) (never_joined _ _ _ _ inside _ _ here c.in-Err.ensures.err.0 c.in-Err.ensures.err.1)

pub returns-in_default-clause-others : goal.returns-in_default-clause-others
returns-in_default-clause-others c = rw (← c.self.view_is) (set_but c.self.inside.entry_stacks c.self.inside.places.items c.args.to c.args.new)

pub returns-in-Ok-None-clause-others : goal.returns-in-Ok-None-clause-others
returns-in-Ok-None-clause-others c = λ pc other. refl

pub returns-in-Ok-Some-clause-others : goal.returns-in-Ok-Some-clause-others
returns-in-Ok-Some-clause-others c = rw (← c.self.view_is) (set_but c.self.inside.entry_stacks c.self.inside.places.items c.args.to _)
