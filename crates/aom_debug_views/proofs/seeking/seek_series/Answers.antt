-- One place after another from the bottom.
use Rattle.std.proofs.Common.{◌≡◌, ◌∙◌, ℕ, List, ap, arith, sym}
use Rattle.std.specs.Prelude.{option_map}
use Rattle.aom_semantics.specs.State.{State}
use Rattle.aom_debug_views.specs.CellViews.{counted}
use Rattle.aom_debug_views.specs.Owners.{Owned, way_text}
use Rattle.aom_debug_views.specs.Reporting.{gathered}
use Rattle.aom_debug_views.specs.SeriesMaps.{hangs_in, is_such, length_of}
use Rattle.aom_debug_views.specs.declared.series.Series.{Series}
use Rattle.aom_debug_views.proofs.Counting.{counted_next}
use Rattle.aom_debug_views.proofs.SeriesPlaces.{as_many}
use Rattle.aom_debug_views.proofs.Sought.{among_next, among_part, not_there, text_among}
use Rattle.aom_debug_views.proofs.seeking.seek_series.Goals as goal

abbrev hangs : Series → State → ℕ → List Owned
hangs a s k = hangs_in a s (counted (is_such a s) k) k

pub returns-then-is_some : goal.returns-then-is_some
returns-then-is_some c = λ s st.
    let a = c.args.series in
    let k = c.loop-place.place in
    let i = c.loop-place.invariant in
    let less = c.loop-place-test.true in
    let count = c.places-place-end.ensures in
    let many = as_many a c.args.checked.now c.args.parts.now s st in
    among_part c.args.sought (hangs a s) k (length_of a s) c.seek_at-found.result (omega (arith, less, count, many)) (i.none s st)
    (c.seek_at-found.ensures s st ∙ ap (λ j. text_among c.args.sought (hangs_in a s j k)) (i.count s st)) (sym c.is_some.ensures ∙ c.if-is_some.true)

pub loop-place-preserved : goal.loop-place-preserved
loop-place-preserved c =
    let a = c.args.series in
    let k = c.loop-place.place in
    let i = c.loop-place.invariant in
    let few = i.few in
    let one = c.count_at-others.ensures.few in
    record {
      few = omega (arith, few, one);
      count = λ s st. counted_next (is_such a s) k _ _ (i.count s st) (c.count_at-others.ensures.value c.args.checked.now s st);
      none = λ s st. among_next c.args.sought (hangs a s) k (i.none s st) (not_there c.args.sought c.seek_at-found.result (hangs a s k)
          (c.seek_at-found.ensures s st ∙ ap (λ j. text_among c.args.sought (hangs_in a s j k)) (i.count s st)) (sym c.is_some.ensures ∙ c.if-is_some.false));
    }

pub returns : goal.returns
returns c = λ s st.
    let a = c.args.series in
    let most = c.loop-place.auto.place-end in
    let least = c.loop-place-test.false in
    let count = c.places-place-end.ensures in
    let many = as_many a c.args.checked.now c.args.parts.now s st in
    let all : c.loop-place.place ≡ length_of a s = omega (arith, most, least, count, many) in
    sym (ap (λ k. text_among c.args.sought (gathered (hangs a s) k)) (sym all) ∙ ap (option_map way_text) (c.loop-place.invariant.none s st))
