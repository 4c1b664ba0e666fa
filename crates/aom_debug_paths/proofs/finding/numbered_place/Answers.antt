-- One place after another from the bottom, until the one over so many others.
use Rattle.std.proofs.Common.{◌∙◌, ◌≡◌, add-one, ap, arith, false, suc, sym, true}
use Rattle.aom_debug_paths.proofs.DebugViewsLemmas.{as_many, counted_next}
use Rattle.aom_debug_paths.specs.Paths.{numbered}
use Rattle.aom_debug_views.specs.SeriesMaps.{is_such, length_of}
use Rattle.aom_debug_paths.proofs.Numbering.{numbered_more, numbered_reported}
use Rattle.aom_debug_paths.proofs.finding.numbered_place.Goals as goal

pub returns-then-is_meant : goal.returns-then-is_meant
returns-then-is_meant c = λ p s st.
    let f = is_such c.args.series s in
    let n = c.loop-place.place in
    let less = c.loop-place-test.true in
    let count = c.places-place-end.ensures in
    let many = as_many c.args.series p c.args.parts.now s st in
    let reported = numbered_reported f c.args.number n c.count_at-here.result c.loop-place.others true (c.count_at-here.ensures.value p s st)
    (c.loop-place.invariant.count p s st) (c.loop-place.invariant.none p s st) (sym c.is_meant.ensures ∙ c.if-is_meant.true) in
    sym (numbered_more f c.args.number (suc n) (length_of c.args.series s) n (omega (arith, less, count, many)) reported)

pub loop-place-preserved : goal.loop-place-preserved
loop-place-preserved c =
    let few = c.loop-place.invariant.few in
    let one = c.count_at-here.ensures.few in
    let n = c.loop-place.place in
    record {
      few = omega (arith, few, one);
      count = λ p s st. counted_next (is_such c.args.series s) n c.loop-place.others c.count_at-here.result
          (c.loop-place.invariant.count p s st) (c.count_at-here.ensures.value p s st);
      none = λ p s st. rw add-one
          (numbered_reported (is_such c.args.series s) c.args.number n c.count_at-here.result c.loop-place.others false (c.count_at-here.ensures.value p s st)
          (c.loop-place.invariant.count p s st) (c.loop-place.invariant.none p s st) (sym c.is_meant.ensures ∙ c.if-is_meant.false));
    }

pub returns : goal.returns
returns c = λ p s st.
    let most = c.loop-place.auto.place-end in
    let least = c.loop-place-test.false in
    let count = c.places-place-end.ensures in
    let many = as_many c.args.series p c.args.parts.now s st in
    let all : c.loop-place.place ≡ length_of c.args.series s = omega (arith, most, least, count, many) in
    sym (ap (numbered (is_such c.args.series s) c.args.number) (sym all) ∙ c.loop-place.invariant.none p s st)
