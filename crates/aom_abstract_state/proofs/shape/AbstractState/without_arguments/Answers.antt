use Rattle.std.proofs.Common.{◌≡◌, ◌+◌, sym, ap, ◌∙◌, ℕ, arith}
use Rattle.aom_abstract_state.specs.Arguments.{arguments_moved}
use Rattle.aom_abstract_state.proofs.Moving.{moves_one, moves_done}
use Rattle.aom_abstract_state.proofs.shape.AbstractState.without_arguments.Goals as goal

pub loop-index-init : goal.loop-index-init
loop-index-init c =
    let none : c.number-first.result ≡ c.number-first.result + 0 = omega arith in
    ap (λ (k : ℕ). arguments_moved c.args.arguments.now k c.same-left.result) none

pub loop-index-preserved : goal.loop-index-preserved
loop-index-preserved c = rw c.without_argument-left.ensures (c.loop-index.invariant ∙ moves_one c.args.arguments.now
    c.number-first.result c.loop-index.index c.index-arguments-index.result c.loop-index.left c.loop-index-test.true c.index-arguments-index.is)

pub returns : goal.returns
returns c = rw (← c.number-first.ensures.value, ← c.same-left.ensures)
    (sym (c.loop-index.invariant ∙ moves_done c.args.arguments.now c.loop-index.index _ c.loop-index.left c.loop-index-test.false))
