-- The need that fails is the first that is not met.
use Rattle.std.proofs.Common.{ap, sym, ◌∙◌}
use Rattle.aom_typing_rules.specs.Cleanup.{rule_push}
use Rattle.aom_rule_functions.proofs.AbstractStateLemmas.{all_failed}
use Rattle.aom_typing_rules.specs.RuleContext.{RuleContext}
use Rattle.aom_rule_functions.proofs.cleanup.rule_push.Goals as goal

pub returns-in-Err : goal.returns-in-Err
returns-in-Err c =
    let site = c.args.site.now in
    let there = ap (λ (s : RuleContext). s.shape) c.site.view_is in
    let failed = rw (c.owns_object.ensures, c.register-2.ensures, c.with_register-moved.ensures, there) at (sym c.judge_leave.ensures ∙ c.in-Err.is) in
    let needs = rule_push site.image site.method site.place site.shape c.args.a in
    sym (all_failed needs _ c.in-Err.why failed)
