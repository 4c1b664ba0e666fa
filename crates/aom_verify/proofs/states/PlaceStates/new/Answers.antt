-- At first one place is reached, and its state has no entry.
use Rattle.std.proofs.Common.{◌≡◌, replicate, None, refl, rules}
use Rattle.aom_verify.proofs.Keeping.{first_shapes_are, kept_at_first}
use Rattle.aom_verify.proofs.states.PlaceStates.new.Goals as goal

pub invariant_of-result : goal.invariant_of-result
invariant_of-result c =
    let same : c.in_ok-places.places.items ≡ replicate c.args.count None = search rules in
    rw (same, c.none.ensures) (kept_at_first _ _ _ c.requires tt refl)

pub returns : goal.returns
returns c =
    let same : c.in_ok-places.places.items ≡ replicate c.args.count None = search rules in
    rw (same, c.none.ensures) (first_shapes_are _ _ _)
