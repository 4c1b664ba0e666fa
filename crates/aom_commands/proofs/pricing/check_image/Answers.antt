-- A fault of the bytes is handed on, and one of the typing is told. Its typing is the strongest one.
use Rattle.std.proofs.lemmas.Result.{err_from_is_err_and}
use Rattle.aom_commands.proofs.Refusing.{refusal_stops}
use Rattle.aom_commands.proofs.pricing.check_image.Goals as goal

pub returns-in_err-linked-clause-err : goal.returns-in_err-linked-clause-err
returns-in_err-linked-clause-err c =
    let e = err_from_is_err_and c.from_residual.result c.from_residual.ensures.1 in
    rw (e.1, e.2) c.in_err-linked.ensures.err

pub returns-in_err-checked-clause-err : goal.returns-in_err-checked-clause-err
returns-in_err-checked-clause-err c =
    let e = err_from_is_err_and c.from_residual-in_err-checked.result c.from_residual-in_err-checked.ensures.1 in
    let linked = c.in_ok-linked.ensures in
    rw (e.1, e.2) (refusal_stops _ _ _ linked.ok.0 linked.ok.1 linked.only c.in_err-checked.ensures.refused c.in_err-checked.ensures.complete)

pub returns-clause-typed : goal.returns-clause-typed
returns-clause-typed c = (c.typed.ensures.0, c.typed.ensures.1.typed)
