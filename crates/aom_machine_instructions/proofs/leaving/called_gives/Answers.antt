use Rattle.std.proofs.Common.{sym, ◌∙◌}
use Rattle.aom_machine_instructions.proofs.AbstractStateLemmas.{gives_there}
use Rattle.aom_machine_instructions.proofs.leaving.called_gives.Goals as goal

pub returns-in-Some : goal.returns-in-Some
returns-in-Some c = rw (sym c.callee_of.ensures ∙ c.in-Some.is) (sym (gives_there c.args.linked.now _ _ c.method.ensures))
