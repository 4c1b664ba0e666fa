-- What is found behind the method's statement is what the place finds in its body.
use Rattle.std.proofs.Common.{◌∙◌, ◌+◌, ap, slice_get}
use Rattle.aom_syntax.specs.declared.keyword.Keyword.TheVariants as k
use Rattle.aom_diagnostics.specs.Declarations.{begins, part}
use Rattle.aom_diagnostics.proofs.finding.instruction_statement.Goals as goal

pub returns : goal.returns
returns c = c.at_place.ensures
    ∙ ap (λ ss. slice_get ss c.args.place) (c.in_ok-behind.ensures.behind ∙ ap (λ ss. part (begins k.Method) ss (c.args.number + 1)) c.of.ensures)

pub returns-in_err-behind : goal.returns-in_err-behind
returns-in_err-behind c = c.from_residual.ensures
    ∙ ap (λ ss. slice_get ss c.args.place) (c.in_err-behind.ensures.behind ∙ ap (λ ss. part (begins k.Method) ss (c.args.number + 1)) c.of.ensures)
