use Rattle.std.proofs.Common.{sym, ◌∙◌}
use Rattle.aom_machine_instructions.proofs.Standing.{begun_alone, no_server, plain_where}
use Rattle.aom_machine_instructions.proofs.going.goes_alone.Goals as goal

pub returns-in-None-clause-begun : goal.returns-in-None-clause-begun
returns-in-None-clause-begun c = λ yes. begun_alone c.args.linked.now c.args.class (sym c.role.ensures ∙ c.in-None.is)
    (no_server c.args.linked.now c.args.class (sym c.is_dispatched.ensures ∙ plain_where _ yes))

pub returns-in-None-clause-alone : goal.returns-in-None-clause-alone
returns-in-None-clause-alone c = λ yes. sym c.is_dispatched.ensures ∙ plain_where _ yes
