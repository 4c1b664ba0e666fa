use Rattle.std.proofs.Common.{sym, ◌∙◌}
use Rattle.std.proofs.lemmas.Result.{err_from_is_err_and}
use Rattle.aom_abstract_state.specs.Changes.{ways_from}
use Rattle.aom_abstract_state.proofs.Judging.{all_failed, all_passed}
use Rattle.aom_abstract_state.proofs.flow.judge.Goals as goal

pub returns-in_err-judge_all : goal.returns-in_err-judge_all
returns-in_err-judge_all c =
    let p = err_from_is_err_and c.from_residual.result c.from_residual.ensures.1 in
    λ es. rw (p.1, p.2)
    (sym (all_failed c.args.needs.now (ways_from es c.args.flow) c.in_err-judge_all.field-0.0 (sym c.judge_all.ensures ∙ c.in_err-judge_all.was)))

pub returns : goal.returns
returns c = λ es. sym (all_passed c.args.needs.now (ways_from es c.args.flow) c.in_ok-judge_all.field-0 (sym c.judge_all.ensures ∙ c.in_ok-judge_all.was))
