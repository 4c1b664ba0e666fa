-- A fault on the way to a linked image is handed on. A checked image that is refused for its budgets has a typing.
use Rattle.std.proofs.Common.{◌∙◌, ap, subst, sym}
use Rattle.std.proofs.lemmas.Result.{err_from_is_err_and}
use Rattle.aom_commands.specs.Acceptable.{IsAcceptable}
use Rattle.aom_commands.specs.Status.{of_budget}
use Rattle.aom_commands.proofs.Refusing.{budget_refused, refusal_stops}
use Rattle.aom_commands.proofs.accepting.accept_bytes.Goals as goal

pub returns-in_err-linked-clause-err : goal.returns-in_err-linked-clause-err
returns-in_err-linked-clause-err c =
    let e = err_from_is_err_and c.from_residual.result c.from_residual.ensures.1 in
    rw (e.1, e.2) c.in_err-linked.ensures.err.refuses

pub returns-in_err-linked-clause-complete : goal.returns-in_err-linked-clause-complete
returns-in_err-linked-clause-complete c =
    let e = err_from_is_err_and c.from_residual.result c.from_residual.ensures.1 in
    λ p serialized acceptable. rw (e.1, e.2) (c.in_err-linked.ensures.err.complete p serialized acceptable)

pub returns-in_err-accepted-clause-err : goal.returns-in_err-accepted-clause-err
returns-in_err-accepted-clause-err c =
    let e = err_from_is_err_and c.from_residual-in_err-accepted.result c.from_residual-in_err-accepted.ensures.1 in
    rw (e.1, e.2) (budget_refused _ _ _ _ c.in_ok-linked.ensures.ok.0 c.in_ok-linked.ensures.ok.1 c.in_ok-checked.ensures.ok c.typed.ensures
    c.in_err-accepted.ensures.refused)

pub returns-in_err-checked-clause-err : goal.returns-in_err-checked-clause-err
returns-in_err-checked-clause-err c =
    let e = err_from_is_err_and c.from_residual-in_err-checked.result c.from_residual-in_err-checked.ensures.1 in
    rw (e.1, e.2) (refusal_stops _ _ _ c.in_ok-linked.ensures.ok.0 c.in_ok-linked.ensures.ok.1 c.in_ok-linked.ensures.only c.in_err-checked.ensures.refused
    c.in_err-checked.ensures.complete).refuses

pub returns-in_err-checked-clause-complete : goal.returns-in_err-checked-clause-complete
returns-in_err-checked-clause-complete c =
    let e = err_from_is_err_and c.from_residual-in_err-checked.result c.from_residual-in_err-checked.ensures.1 in
    rw (e.1, e.2) (refusal_stops _ _ _ c.in_ok-linked.ensures.ok.0 c.in_ok-linked.ensures.ok.1 c.in_ok-linked.ensures.only c.in_err-checked.ensures.refused
    c.in_err-checked.ensures.complete).complete

pub returns-in_err-accepted-clause-complete : goal.returns-in_err-accepted-clause-complete
returns-in_err-accepted-clause-complete c =
    let e = err_from_is_err_and c.from_residual-in_err-accepted.result c.from_residual-in_err-accepted.ensures.1 in
    λ q serialized acceptable.
    let a : IsAcceptable c.in_ok-checked.checked = subst IsAcceptable (sym (c.in_ok-checked.ensures.ok ∙ c.in_ok-linked.ensures.only q serialized)) acceptable in
    rw (e.1, e.2) (ap of_budget (c.in_err-accepted.ensures.complete a.budgets a.depths a.heights))
