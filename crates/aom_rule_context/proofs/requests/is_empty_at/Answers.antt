use Rattle.std.proofs.Common.{◌∙◌, ap, sym}
use Rattle.aom_abstract_state.specs.Kinds.{is_empty}
use Rattle.aom_rule_context.proofs.Past.{filling_past, filling_there}
use Rattle.aom_rule_context.proofs.requests.is_empty_at.Goals as goal

pub returns-in-Some : goal.returns-in-Some
returns-in-Some c = c.is_empty.ensures
    ∙ ap is_empty (filling_there c.args.field_states.now c.args.index c.in-Some.field_state.now c.in-Some.ensures.lookup.3.0 c.in-Some.ensures.lookup.1)

pub returns-in-None : goal.returns-in-None
returns-in-None c = sym (ap is_empty (filling_past c.args.field_states.now c.args.index c.in-None.ensures.lookup.3))
