use Rattle.std.proofs.Common.{◌≡◌, sym, ◌∙◌}
use Rattle.std.proofs.lemmas.Result.{err_from_is_err_and}
use Rattle.aom_typing_rules.specs.Calls.{rule_left}
use Rattle.aom_abstract_state.specs.Needs.{tested}
use Rattle.aom_rule_context.proofs.Returning.{left_refused, refused, returned}
use Rattle.aom_rule_context.proofs.site.RuleContext.rule_return.Goals as goal

pub returns-in_err-judge_result : goal.returns-in_err-judge_result
returns-in_err-judge_result c =
    let p = err_from_is_err_and c.from_residual.result c.from_residual.ensures.1 in
    let site = c.args.self.now in
    rw (p.1, p.2) (sym (refused site.image site.method site.place site.shape c.args.a _ (sym c.judge_result.ensures ∙ c.in_err-judge_result.was)))

pub returns-in_err-judge_all : goal.returns-in_err-judge_all
returns-in_err-judge_all c =
    let p = err_from_is_err_and c.from_residual-in_err-judge_all.result c.from_residual-in_err-judge_all.ensures.1 in
    let site = c.args.self.now in
    let left : tested (rule_left site.image site.method site.place site.shape c.args.a) ≡ c.judge_all.result =
    rw (← c.entries_done.ensures, ← c.result_moved-left.ensures, ← c.none_owns.ensures) (sym c.judge_all.ensures) in
    rw (p.1, p.2) (sym (left_refused site.image site.method site.place site.shape c.args.a _ _ (sym c.judge_result.ensures ∙ c.in_ok-judge_result.was) (left ∙ c.in_err-judge_all.was)))

pub returns : goal.returns
returns c =
    let site = c.args.self.now in
    let left : tested (rule_left site.image site.method site.place site.shape c.args.a) ≡ c.judge_all.result =
    rw (← c.entries_done.ensures, ← c.result_moved-left.ensures, ← c.none_owns.ensures) (sym c.judge_all.ensures) in
    let here = returned site.image site.method site.place site.shape c.args.a _ _ (sym c.judge_result.ensures ∙ c.in_ok-judge_result.was)
    (left ∙ c.in_ok-judge_all.was) in
    rw (here, c.judge.ensures site.shape.entries, c.none.ensures site.shape.entries) (cc)
