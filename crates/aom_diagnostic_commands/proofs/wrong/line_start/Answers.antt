-- No line is before what is left.
use Rattle.std.proofs.Common.{◌≡◌, ◌∙◌, ◌+◌, ap, arith, drop, sym}
use Rattle.aom_diagnostic_commands.specs.Wrong.{line_start}
use Rattle.aom_diagnostic_commands.proofs.Searching.{none_before}
use Rattle.aom_diagnostic_commands.proofs.wrong.line_start.Goals as goal

pub returns-after-loop-before-clause-start : goal.returns-after-loop-before-clause-start
returns-after-loop-before-clause-start c =
    let left = drop c.loop-before.start c.args.text.now in
    let none : 0 ≡ c.loop-before.before = omega (arith, c.loop-before-test.false) in
    let all : c.loop-before.start ≡ c.loop-before.start + 0 = omega arith in
    all ∙ ap (λ n. c.loop-before.start + n) (sym (none_before left) ∙ ap (λ n. line_start left n) none) ∙ c.loop-before.invariant.0
