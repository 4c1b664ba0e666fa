use Rattle.std.proofs.Common.{◌≡◌, Some, sym, ◌∙◌}
use Rattle.std.proofs.lemmas.Result.{err_from_is_err_and}
use Rattle.aom_image.specs.Views.{method_at}
use Rattle.aom_typing_rules.specs.Calls.{while_called}
use Rattle.aom_rule_context.proofs.Calling.{call_decides, entries_kept}
use Rattle.aom_abstract_state.specs.Changes.{next_shape}
use Rattle.aom_rule_context.proofs.site.RuleContext.rule_call.Goals as goal

pub returns-in_err-moved : goal.returns-in_err-moved
returns-in_err-moved c =
    let p = err_from_is_err_and c.from_residual.result c.from_residual.ensures.1 in
    let there : method_at c.args.self.now.image c.args.call.now.method ≡ Some c.method-callee.result.now = rw (← c.self.view_is) c.method-callee.ensures in
    rw (p.1, p.2) (sym ((call_decides c.args.self.now c.args.call.now c.method-callee.result.now there).refused _ (sym c.given.ensures ∙ c.in_err-moved.was)))

pub returns-in_err-judge_moved : goal.returns-in_err-judge_moved
returns-in_err-judge_moved c =
    let p = err_from_is_err_and c.from_residual-in_err-judge_moved.result c.from_residual-in_err-judge_moved.ensures.1 in
    let there : method_at c.args.self.now.image c.args.call.now.method ≡ Some c.method-callee.result.now = rw (← c.self.view_is) c.method-callee.ensures in
    rw (p.1, p.2) (sym ((call_decides c.args.self.now c.args.call.now c.method-callee.result.now there).rest_refused c.in_ok-moved.moved _
    (sym c.given.ensures ∙ c.in_ok-moved.was) (sym c.judge_moved.ensures ∙ c.in_err-judge_moved.was)))

pub returns : goal.returns
returns c =
    let call = c.args.call.now in
    let site = c.args.self.now in
    let there : method_at site.image call.method ≡ Some c.method-callee.result.now = rw (← c.self.view_is) c.method-callee.ensures in
    let given = sym c.given.ensures ∙ c.in_ok-moved.was in
    let same = entries_kept site.image site.method site.shape call.target call.method call.first c.method-callee.result.now c.in_ok-moved.moved given in
    let lasting : next_shape site.shape.entries c.while_called-lasting.result ≡ while_called
    call.target c.method-callee.result.now.class c.method-callee.result.now.after.0 c.in_ok-moved.moved = rw same c.while_called-lasting.ensures.value in
    rw (c.on.ensures site.shape.entries, c.brought.ensures site.shape.entries, lasting) (sym ((call_decides c.args.self.now c.args.call.now
    c.method-callee.result.now there).met c.in_ok-moved.moved _ given (sym c.judge_moved.ensures ∙ c.in_ok-judge_moved.was)))
