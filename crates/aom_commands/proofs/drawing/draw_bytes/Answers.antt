-- A fault of the bytes is handed on. The graph is that of the image that they are.
use Rattle.std.proofs.lemmas.Result.{err_from_is_err_and}
use Rattle.aom_commands.proofs.Translated.{drawn_of}
use Rattle.aom_commands.proofs.drawing.draw_bytes.Goals as goal

pub returns-in_err-checked-clause-err : goal.returns-in_err-checked-clause-err
returns-in_err-checked-clause-err c =
    let e = err_from_is_err_and c.from_residual.result c.from_residual.ensures.1 in
    rw (e.1, e.2) c.in_err-checked.ensures.err

pub returns-clause-ok : goal.returns-clause-ok
returns-clause-ok c =
    let checked = c.in_ok-checked.ensures.ok in
    let typing = c.in_ok-checked.ensures.typed in
    drawn_of c.args.names.now c.args.bytes.now _ c.in_ok-checked.checked typing.0 checked.0 checked.1 typing.1 c.in_ok-text.ensures
