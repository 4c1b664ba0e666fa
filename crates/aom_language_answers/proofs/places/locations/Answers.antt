-- One place more is told, and at the end all.
use Rattle.std.proofs.Common.{◌≡◌, ◌∙◌, ap, map, slice_index, subst, sym, take}
use Rattle.serde_json.specs.Data.{array}
use Rattle.serde_json.specs.View.{items_of, view}
use Rattle.serde_json.proofs.Views.{view-Array}
use Rattle.aom_language_answers.proofs.Lists.{pushed, whole}
use Rattle.aom_language_answers.specs.Places.{location_data}
use Rattle.aom_language_answers.proofs.places.locations.Goals as goal

-- src/places.rt
pub loop-declared-preserved : goal.loop-declared-preserved
loop-declared-preserved c =
    let so_far = subst (λ r. map view c.loop-declared.locations.items ≡ map (location_data c.args.uri.now c.args.names.now r) (take c.loop-declared.declared-index c.args.found.now)) (sym c.location.ensures.same) c.loop-declared.invariant.so_far in
    let is = subst (λ r. view c.in_ok-location.field-0 ≡ location_data c.args.uri.now c.args.names.now r (slice_index c.args.found.now c.loop-declared.declared-index)) (sym c.location.ensures.same) c.in_ok-location.ensures.is in
    record {
      same = c.location.ensures.same ∙ c.loop-declared.invariant.same;
      so_far = pushed _ _ _ _ c.args.found.now c.loop-declared.declared-index c.loop-declared-test.true so_far c.in_ok-push.ensures.items is;
    }

-- src/places.rt
pub returns : goal.returns
returns c =
    let so_far = subst (λ r. map view c.loop-declared.locations.items ≡ map (location_data c.args.uri.now c.args.names.now r) (take c.loop-declared.declared-index c.args.found.now)) c.loop-declared.invariant.same c.loop-declared.invariant.so_far in
    view-Array c.loop-declared.locations ∙ ap (λ ds. array (items_of ds)) (whole _ _ c.args.found.now c.loop-declared.declared-index c.loop-declared-test.false so_far)
