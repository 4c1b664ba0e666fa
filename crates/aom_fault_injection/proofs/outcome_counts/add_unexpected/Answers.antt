-- The line is that of the number that is asked for.
use Rattle.std.proofs.Common.{◌++◌, ◌∙◌, ap, sym}
use Rattle.aom_fault_injection.specs.OutcomeTables.{unexpected_text}
use Rattle.aom_fault_injection.proofs.outcome_counts.add_unexpected.Goals as goal

pub returns-in-Some : goal.returns-in-Some
returns-in-Some c = c.add_line.ensures ∙ ap (λ o. c.args.text.now ++ unexpected_text o) (sym c.in-Some.is)
