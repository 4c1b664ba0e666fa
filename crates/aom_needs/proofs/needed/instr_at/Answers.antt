use Rattle.aom_needs.proofs.Codes.{code_register_there}
use Rattle.aom_needs.proofs.LinkConditionsLemmas.{has_method}
use Rattle.aom_needs.proofs.needed.instr_at.Goals as goal

pub returns-clause-method : goal.returns-clause-method
returns-clause-method c = has_method c.args.linked.now c.args.method c.args.place c.requires

pub returns-clause-code : goal.returns-clause-code
returns-clause-code c =
    code_register_there c.args.linked.now c.args.method c.args.place _ (rw c.image.ensures at c.methods-formed.ensures.well_formed) c.instr.ensures
