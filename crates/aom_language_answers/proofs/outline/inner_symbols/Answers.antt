-- One symbol more is told, and at the end all.
use Rattle.std.proofs.Common.{◌≡◌, ◌∙◌, ap, map, slice_index, subst, sym, take}
use Rattle.serde_json.specs.Data.{array}
use Rattle.serde_json.specs.View.{items_of, view}
use Rattle.serde_json.proofs.Views.{view-Array}
use Rattle.aom_language_answers.proofs.Lists.{pushed, whole}
use Rattle.aom_language_answers.specs.Outline.{inner_data}
use Rattle.aom_language_answers.proofs.outline.inner_symbols.Goals as goal

-- src/outline.rt
pub loop-at-preserved : goal.loop-at-preserved
loop-at-preserved c =
    let so_far = subst (λ r. map view c.loop-at.symbols.items ≡ map (inner_data c.args.names.now r) (take c.loop-at.at-index c.args.inner.now)) (sym c.inner_symbol.ensures.same) c.loop-at.invariant.so_far in
    let is = subst (λ r. view c.in_ok-inner_symbol.field-0 ≡ inner_data c.args.names.now r (slice_index c.args.inner.now c.loop-at.at-index)) (sym c.inner_symbol.ensures.same) c.in_ok-inner_symbol.ensures.is in
    record {
      same = c.inner_symbol.ensures.same ∙ c.loop-at.invariant.same;
      so_far = pushed _ _ _ _ c.args.inner.now c.loop-at.at-index c.loop-at-test.true so_far c.in_ok-push.ensures.items is;
    }

-- src/outline.rt
pub returns : goal.returns
returns c =
    let so_far = subst (λ r. map view c.loop-at.symbols.items ≡ map (inner_data c.args.names.now r) (take c.loop-at.at-index c.args.inner.now)) c.loop-at.invariant.same c.loop-at.invariant.so_far in
    record {
      same = c.loop-at.invariant.same;
      is = view-Array c.loop-at.symbols ∙ ap (λ ds. array (items_of ds)) (whole _ _ c.args.inner.now c.loop-at.at-index c.loop-at-test.false so_far);
    }
