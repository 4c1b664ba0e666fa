-- One edit more is made, and at the end all.
use Rattle.std.proofs.Common.{◌≡◌, ◌∙◌, ap, map, slice_index, subst, sym, take}
use Rattle.serde_json.specs.Data.{array}
use Rattle.serde_json.specs.View.{items_of, view}
use Rattle.serde_json.proofs.Views.{view-Array}
use Rattle.aom_language_answers.proofs.Lists.{pushed, whole}
use Rattle.aom_language_answers.specs.Renaming.{edit_data}
use Rattle.aom_language_answers.proofs.renaming.edits_of.Goals as goal

-- src/renaming.rt
pub loop-place-preserved : goal.loop-place-preserved
loop-place-preserved c =
    let so_far = subst (λ r. map view c.loop-place.edits.items ≡ map (edit_data c.args.new_name.now c.args.names.now r) (take c.loop-place.place-index c.args.places.now)) (sym c.edit.ensures.same) c.loop-place.invariant.so_far in
    let is = subst (λ r. view c.in_ok-edit.field-0 ≡ edit_data c.args.new_name.now c.args.names.now r (slice_index c.args.places.now c.loop-place.place-index)) (sym c.edit.ensures.same) c.in_ok-edit.ensures.is in
    record {
      same = c.edit.ensures.same ∙ c.loop-place.invariant.same;
      so_far = pushed _ _ _ _ c.args.places.now c.loop-place.place-index c.loop-place-test.true so_far c.in_ok-push.ensures.items is;
    }

-- src/renaming.rt
pub returns : goal.returns
returns c =
    let so_far = subst (λ r. map view c.loop-place.edits.items ≡ map (edit_data c.args.new_name.now c.args.names.now r) (take c.loop-place.place-index c.args.places.now)) c.loop-place.invariant.same c.loop-place.invariant.so_far in
    view-Array c.loop-place.edits ∙ ap (λ ds. array (items_of ds)) (whole _ _ c.args.places.now c.loop-place.place-index c.loop-place-test.false so_far)
