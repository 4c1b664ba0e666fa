use Rattle.std.proofs.Common.{◌≡◌, false, Some, sym, ◌∙◌, rules}
use Rattle.std.proofs.lemmas.Result.{err_from_is_err_and}
use Rattle.aom_image.specs.Views.{is_quiet, method_at}
use Rattle.aom_typing_rules.specs.Calls.{while_called}
use Rattle.aom_typing_rules.specs.Beginning.{resting}
use Rattle.aom_rule_context.proofs.Calling.{entries_kept, trap_decides}
use Rattle.aom_abstract_state.specs.Changes.{next_shape}
use Rattle.aom_rule_context.proofs.site.RuleContext.rule_trap.Goals as goal

pub returns-in_err-moved : goal.returns-in_err-moved
returns-in_err-moved c =
    let p = err_from_is_err_and c.from_residual.result c.from_residual.ensures.1 in
    let there : method_at c.args.self.now.image c.args.call.now.method ≡ Some c.method-callee.result.now = rw (← c.self.view_is) c.method-callee.ensures in
    let nonquiet : is_quiet c.args.self.now.image c.args.self.now.method ≡ false = rw (← c.self.view_is) (sym c.is_quiet.ensures ∙ c.if-is_quiet.false) in
    rw (p.1, p.2) (sym ((trap_decides c.args.self.now c.args.call.now c.method-callee.result.now there nonquiet).refused _ (sym c.given.ensures ∙ c.in_err-moved.was)))

pub returns-in_err-judge_trapped : goal.returns-in_err-judge_trapped
returns-in_err-judge_trapped c =
    let p = err_from_is_err_and c.from_residual-in_err-judge_trapped.result c.from_residual-in_err-judge_trapped.ensures.1 in
    let there : method_at c.args.self.now.image c.args.call.now.method ≡ Some c.method-callee.result.now = rw (← c.self.view_is) c.method-callee.ensures in
    let nonquiet : is_quiet c.args.self.now.image c.args.self.now.method ≡ false = rw (← c.self.view_is) (sym c.is_quiet.ensures ∙ c.if-is_quiet.false) in
    rw (p.1, p.2) (sym ((trap_decides c.args.self.now c.args.call.now c.method-callee.result.now there nonquiet).rest_refused c.in_ok-moved.moved _
    (sym c.given.ensures ∙ c.in_ok-moved.was) (rw (← c.self.view_is) (sym c.judge_trapped.ensures ∙ c.in_err-judge_trapped.was))))

pub returns : goal.returns
returns c =
    let call = c.args.call.now in
    let site = c.args.self.now in
    let there : method_at site.image call.method ≡ Some c.method-callee.result.now = rw (← c.self.view_is) c.method-callee.ensures in
    let nonquiet : is_quiet site.image site.method ≡ false = rw (← c.self.view_is) (sym c.is_quiet.ensures ∙ c.if-is_quiet.false) in
    let given = sym c.given.ensures ∙ c.in_ok-moved.was in
    let same = entries_kept site.image site.method site.shape call.target call.method call.first c.method-callee.result.now c.in_ok-moved.moved given in
    let rested : c.resting-rested.result.0 ≡ resting site.image c.method-callee.result.now.class = rw (← c.self.view_is) c.resting-rested.ensures in
    let lasting : next_shape site.shape.entries c.while_called-lasting.result ≡ while_called call.target c.method-callee.result.now.class
    (resting site.image c.method-callee.result.now.class) c.in_ok-moved.moved = rw (same, ← rested) c.while_called-lasting.ensures.value in
    rw (c.on.ensures site.shape.entries, c.caught.ensures site.shape.entries, lasting)
    (sym ((trap_decides c.args.self.now c.args.call.now c.method-callee.result.now there nonquiet).met c.in_ok-moved.moved _ given
    (rw (← c.self.view_is) (sym c.judge_trapped.ensures ∙ c.in_ok-judge_trapped.was))))

pub returns-then-is_quiet : goal.returns-then-is_quiet
returns-then-is_quiet c = search rules
