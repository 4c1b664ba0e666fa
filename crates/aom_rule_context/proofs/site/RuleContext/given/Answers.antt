use Rattle.std.proofs.Common.{◌≡◌, ap, sym, ◌∙◌}
use Rattle.std.proofs.lemmas.Result.{err_from_is_err_and}
use Rattle.aom_typing_rules.specs.Calls.{rule_arguments}
use Rattle.aom_typing_rules.specs.RuleContext.{RuleContext}
use Rattle.aom_abstract_state.specs.Arguments.{arguments_moved}
use Rattle.aom_abstract_state.specs.Needs.{tested}
use Rattle.aom_rule_context.proofs.Calling.{target_refused, arguments_refused, both_met}
use Rattle.aom_rule_context.proofs.site.RuleContext.given.Goals as goal

pub returns-in_err-judge_target : goal.returns-in_err-judge_target
returns-in_err-judge_target c =
    let p = err_from_is_err_and c.from_residual.result c.from_residual.ensures.1 in
    let call = c.args.call.now in
    let site = c.args.self.now in
    rw (p.1, p.2) (sym (target_refused site.image site.method site.shape call.target call.method call.first c.args.callee.now _ (sym c.judge_target.ensures ∙ c.in_err-judge_target.was)))

pub returns-in_err-judge_arguments : goal.returns-in_err-judge_arguments
returns-in_err-judge_arguments c =
    let p = err_from_is_err_and c.from_residual-in_err-judge_arguments.result c.from_residual-in_err-judge_arguments.ensures.1 in
    let call = c.args.call.now in
    let site = c.args.self.now in
    let asked : tested (rule_arguments site.image site.shape c.args.callee.now.arguments call.first) ≡ c.judge_arguments.result =
    ap (λ (s : RuleContext). tested (rule_arguments s.image s.shape c.args.callee.now.arguments call.first)) (sym c.self.view_is)
    ∙ rw (← c.as_slice-arguments.ensures) (sym c.judge_arguments.ensures) in
    rw (p.1, p.2) (sym (arguments_refused site.image site.method site.shape call.target call.method call.first c.args.callee.now _ _
    (sym c.judge_target.ensures ∙ c.in_ok-judge_target.was) (asked ∙ c.in_err-judge_arguments.was)))

pub returns : goal.returns
returns c =
    let call = c.args.call.now in
    let site = c.args.self.now in
    let moved : c.without_arguments.result ≡ arguments_moved c.args.callee.now.arguments call.first site.shape =
    rw (← c.self.view_is, ← c.as_slice-arguments.ensures) c.without_arguments.ensures in
    let asked : tested (rule_arguments site.image site.shape c.args.callee.now.arguments call.first) ≡ c.judge_arguments.result =
    ap (λ (s : RuleContext). tested (rule_arguments s.image s.shape c.args.callee.now.arguments call.first)) (sym c.self.view_is)
    ∙ rw (← c.as_slice-arguments.ensures) (sym c.judge_arguments.ensures) in
    rw moved (sym (both_met site.image site.method site.shape call.target call.method call.first c.args.callee.now _ _
    (sym c.judge_target.ensures ∙ c.in_ok-judge_target.was) (asked ∙ c.in_ok-judge_arguments.was)))
