use Rattle.std.proofs.Common.{◌≡◌, ◌∙◌, ◌&&◌, ◌+◌, suc, sym, ap, arith}
use Rattle.aom_typing_rules.specs.Calls.{empty_past}
use Rattle.aom_rule_context.proofs.Past.{past_over, past_step}
use Rattle.aom_rule_context.proofs.requests.empty_past.Goals as goal

pub returns-then-not-is_empty_at : goal.returns-then-not-is_empty_at
returns-then-not-is_empty_at c =
    let index = c.loop-index.index in
    let empty = sym c.is_empty_at.ensures ∙ c.if-not-is_empty_at.true in
    sym (c.loop-index.invariant ∙ past_step index c.args.declared.now c.args.field_states.now (omega (arith, c.loop-index-test.true))
    ∙ ap (λ b. b && empty_past (suc index) c.args.declared.now c.args.field_states.now) empty)

pub loop-index-preserved : goal.loop-index-preserved
loop-index-preserved c =
    let index = c.loop-index.index in
    let empty = sym c.is_empty_at.ensures ∙ c.if-not-is_empty_at.false in
    let next : suc index ≡ index + 1 = omega arith in
    c.loop-index.invariant ∙ past_step index c.args.declared.now c.args.field_states.now (omega (arith, c.loop-index-test.true))
    ∙ ap (λ b. b && empty_past (suc index) c.args.declared.now c.args.field_states.now) empty ∙ ap (λ n. empty_past n c.args.declared.now c.args.field_states.now) next

pub returns : goal.returns
returns c = sym (c.loop-index.invariant ∙ past_over c.loop-index.index c.args.declared.now c.args.field_states.now c.loop-index-test.false)
