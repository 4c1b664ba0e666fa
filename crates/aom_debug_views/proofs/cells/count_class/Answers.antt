-- The numbers that have an object of the class are as many as its objects.
use Rattle.std.proofs.Common.{◌≡◌, ◌∙◌, ap, arith}
use Rattle.aom_cells.specs.Heap.{class_at}
use Rattle.aom_debug_views.specs.CellViews.{counted, is_class}
use Rattle.aom_debug_views.proofs.Counting.{class_counted}
use Rattle.aom_debug_views.proofs.cells.count_class.Goals as goal

pub returns : goal.returns
returns c = λ p s st.
    let limit = c.limit-number-end.ensures.value in
    let most = c.loop-number.auto.number-end in
    let least = c.loop-number-test.false in
    let all : c.loop-number.number ≡ c.args.parts.now.cells.limit = omega (arith, limit, most, least) in
    class_counted p _ s st c.args.class _ (c.loop-number.invariant.count ∙ ap (counted (λ n. is_class c.args.class (class_at c.args.parts.now.cells n))) all)
