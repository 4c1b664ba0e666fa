use Rattle.std.proofs.Common.{not, ap, ◌∙◌}
use Rattle.aom_roles.specs.Tests.{only_if}
use Rattle.aom_rule_context.proofs.AbstractStateLemmas.{before_there, class_there, role_there}
use Rattle.aom_rule_context.proofs.requests.begins_there.Goals as goal

pub returns : goal.returns
returns c =
    let p = c.args.linked.now in
    let m = c.args.method in
    let d = c.method-callee.result.now in
    let there = c.method-callee.ensures in
    rw (class_there p m d there, role_there p m d there, before_there p m d there, ← c.resting-rested.ensures, ← c.is_construct.ensures)
    (c.only_if.ensures ∙ ap (only_if (not c.is_construct.result)) (c.contains.ensures tt))
