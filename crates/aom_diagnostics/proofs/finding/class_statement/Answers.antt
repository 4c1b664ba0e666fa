-- What is found in the text's statements is what the number finds.
use Rattle.std.proofs.Common.{◌∙◌, ap, slice_get}
use Rattle.std.specs.List.{filter}
use Rattle.aom_syntax.specs.declared.keyword.Keyword.TheVariants as k
use Rattle.aom_diagnostics.specs.Declarations.{begins}
use Rattle.aom_diagnostics.proofs.finding.class_statement.Goals as goal

pub returns : goal.returns
returns c = c.in_ok-statement.ensures.statement ∙ ap (λ ss. slice_get (filter (begins k.Class) ss) c.args.number) c.of.ensures

pub returns-in_err-statement : goal.returns-in_err-statement
returns-in_err-statement c = c.from_residual.ensures ∙ c.in_err-statement.ensures.statement
    ∙ ap (λ ss. slice_get (filter (begins k.Class) ss) c.args.number) c.of.ensures
