-- The methods' typings make one of the image, and a typed image is refused for want of memory alone.
use Rattle.std.proofs.lemmas.Result.{err_from_is_err_and}
use Rattle.aom_verify.proofs.Refusing.{only_memory}
use Rattle.aom_verify.proofs.checked.check.Goals as goal

pub returns-in_err-state_tables-clause-complete : goal.returns-in_err-state_tables-clause-complete
returns-in_err-state_tables-clause-complete c =
    let p = err_from_is_err_and c.from_residual.result c.from_residual.ensures.1 in
    λ t typed. rw (p.1, p.2) (only_memory _ _ t c.in_err-state_tables.ensures.err typed)
