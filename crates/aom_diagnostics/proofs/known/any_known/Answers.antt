-- One register after another.
use Rattle.std.proofs.Common.{◌≡◌, ◌∙◌, ◌||◌, add-one, ap, arith, sym}
use Rattle.std.specs.Prelude.{not}
use Rattle.aom_abstract_state.specs.Tests.{is_unset}
use Rattle.aom_diagnostics.specs.Known.{any_known, known_below}
use Rattle.aom_diagnostics.proofs.known.any_known.Goals as goal

pub loop-number-preserved : goal.loop-number-preserved
loop-number-preserved c =
    let at = c.loop-number.number in
    c.or_set-any.ensures ∙ ap (λ b. b || not (is_unset c.kind_at.result)) c.loop-number.invariant
    ∙ ap (λ k. known_below c.args.shape.now at || not (is_unset k)) c.kind_at.ensures ∙ ap (known_below c.args.shape.now) (sym (add-one at))

pub returns : goal.returns
unfolding any_known
returns c =
    let all : c.loop-number.number ≡ 16 = omega (arith, c.loop-number-test.false, c.loop-number.auto.number-end) in
    c.loop-number.invariant ∙ ap (known_below c.args.shape.now) all
