use Rattle.std.proofs.Common.{sym, ◌∙◌}
use Rattle.aom_rule_context.proofs.Arguments.{entry_missing, entry_there}
use Rattle.aom_rule_context.proofs.site.RuleContext.judge_entry.Goals as goal

pub returns-in-Some : goal.returns-in-Some
returns-in-Some c =
    let there = entry_there c.self.inside.shape.now.entries c.number.result c.in-Some.entry (sym c.entry.ensures ∙ c.in-Some.is) in
    rw (← c.self.view_is, ← c.number.ensures.value, there.0, there.1) (cc)

pub returns-in-None : goal.returns-in-None
returns-in-None c =
    let missing = entry_missing c.self.inside.shape.now.entries c.number.result (sym c.entry.ensures ∙ c.in-None.is) in
    rw (← c.self.view_is, ← c.number.ensures.value, missing) (cc)
