-- A place is set, or is not reached.
use Rattle.std.proofs.Common.{ap, ◌∙◌}
use Rattle.aom_roles.specs.Tables.{at}
use Rattle.aom_budget.proofs.AbstractStateLemmas.{at_set_here, at_set_other}
use Rattle.aom_budget.proofs.pass.Pass.note.Goals as goal

pub returns-then-is_some-clause-here : goal.returns-then-is_some-clause-here
returns-then-is_some-clause-here c = λ sh there. ap (λ l. at 0 l c.args.place) c.set.ensures
    ∙ at_set_here 0 c.args.self.now.from c.args.place c.args.cost c.requires.within

pub returns-then-is_some-clause-others : goal.returns-then-is_some-clause-others
returns-then-is_some-clause-others c = λ y other. ap (λ l. at 0 l y) c.set.ensures ∙ at_set_other 0 c.args.self.now.from c.args.place y c.args.cost other
