use Rattle.std.proofs.Common.{sym, ap, ◌∙◌, ◌+◌, ◌≤◌, ◌≡◌, ℕ, length, arith}
use Rattle.std.proofs.lemmas.Result.{err_from_is_err_and}
use Rattle.aom_typing_rules.specs.Calls.{each_argument}
use Rattle.aom_abstract_state.specs.Needs.{tested}
use Rattle.aom_rule_context.proofs.Arguments.{rule_within, rule_past, needs_passed, needs_failed, needs_done}
use Rattle.aom_rule_context.proofs.calls.judge_arguments.Goals as goal

pub returns-then-first-arguments : goal.returns-then-first-arguments
returns-then-first-arguments c = sym (rule_past c.args.linked.now c.args.shape.now c.args.arguments.now c.args.first
    (omega (arith, c.if-first-arguments.true, c.number-first.ensures.value, c.number-first.ensures.in_range)))

pub returns-in_err-judge_argument : goal.returns-in_err-judge_argument
returns-in_err-judge_argument c =
    let p = err_from_is_err_and c.from_residual.result c.from_residual.ensures.1 in
    let fits : c.number-first.result + length c.args.arguments.now ≤ 16 = omega (arith, c.if-first-arguments.false, c.number-first.ensures.in_range) in
    let failed = needs_failed c.args.linked.now c.args.shape.now c.args.arguments.now c.number-first.result c.loop-index.index c.index-arguments-index.result
    _ c.loop-index-test.true c.index-arguments-index.is (rw (← c.kind_at.ensures) (sym c.judge_argument.ensures ∙ c.in_err-judge_argument.was)) in
    rw (p.1, p.2, ← c.number-first.ensures.value)
    (sym (rule_within c.args.linked.now c.args.shape.now c.args.arguments.now c.number-first.result fits ∙ c.loop-index.invariant ∙ failed))

pub loop-index-init : goal.loop-index-init
loop-index-init c =
    let none : c.number-first.result ≡ c.number-first.result + 0 = omega arith in
    ap (λ (k : ℕ). tested (each_argument c.args.linked.now c.args.shape.now c.args.arguments.now k)) none

pub loop-index-preserved : goal.loop-index-preserved
loop-index-preserved c = c.loop-index.invariant
    ∙ needs_passed c.args.linked.now c.args.shape.now c.args.arguments.now c.number-first.result c.loop-index.index c.index-arguments-index.result
    _ c.loop-index-test.true c.index-arguments-index.is (rw (← c.kind_at.ensures) (sym c.judge_argument.ensures ∙ c.in_ok-judge_argument.was))

pub returns : goal.returns
returns c =
    let fits : c.number-first.result + length c.args.arguments.now ≤ 16 = omega (arith, c.if-first-arguments.false, c.number-first.ensures.in_range) in
    rw (← c.number-first.ensures.value) (sym (rule_within c.args.linked.now c.args.shape.now c.args.arguments.now c.number-first.result fits
    ∙ c.loop-index.invariant ∙ needs_done c.args.linked.now c.args.shape.now c.args.arguments.now c.loop-index.index _ c.loop-index-test.false))
