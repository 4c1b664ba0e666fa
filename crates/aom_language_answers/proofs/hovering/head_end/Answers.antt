-- All tokens from the declaration on were looked at.
use Rattle.std.proofs.Common.{◌≡◌, ◌∙◌, ◌-◌, ap, arith, length, unwrap_or}
use Rattle.aom_language_answers.specs.Hovers.{first_end}
use Rattle.aom_language_answers.proofs.hovering.head_end.Goals as goal

-- src/hovering.rt
pub returns : goal.returns
returns c =
    let count : c.len-count.result ≡ length c.args.names.now.tokens = c.len-count.ensures.count ∙ ap (λ s. length s.tokens) c.tokens.ensures in
    let same : c.loop-at.at - c.args.declared ≡ length c.args.names.now.tokens - c.args.declared = grind (arith, count, c.loop-at-test.false, c.loop-at.invariant.within) in
    let ended : c.loop-at.end ≡ first_end c.args.names.now c.args.declared (length c.args.names.now.tokens - c.args.declared) =
    c.loop-at.invariant.so_far ∙ ap (λ n. first_end c.args.names.now c.args.declared n) same in
    c.unwrap_or.ensures ∙ ap (λ o. unwrap_or o c.len-count.result) ended ∙ ap (λ n. unwrap_or (first_end c.args.names.now c.args.declared (length c.args.names.now.tokens - c.args.declared)) n) count
