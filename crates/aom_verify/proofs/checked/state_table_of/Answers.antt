-- Settled states are the strongest typing of the method, and where the sweeps fail there is none.
use Rattle.aom_verify.proofs.Stopping.{stops_refused}
use Rattle.aom_verify.proofs.Sweeping.{settled, first_count}
use Rattle.aom_verify.proofs.Places.{spanned}
use Rattle.std.proofs.lemmas.Result.{err_from_is_err_and}
use Rattle.aom_verify.proofs.checked.state_table_of.Goals as goal

pub returns-in-Ok-clause-ok : goal.returns-in-Ok-clause-ok
returns-in-Ok-clause-ok c =
    settled _ _ _ _ _ c.place_count.ensures.some c.entry-entry.ensures.implied c.entry-entry.ensures.no_less (rw c.in_ok-state_table.ensures at c.in-Ok.ensures.ok)

pub returns-in-Ok-clause-err : goal.returns-in-Ok-clause-err
returns-in-Ok-clause-err c = tt

pub returns-in-Err-clause-err : goal.returns-in-Err-clause-err
returns-in-Err-clause-err c =
    let stopped = rw c.in_ok-state_table.ensures at c.in-Err.ensures.err in
    rw c.refusal.ensures
    (stops_refused _ _ _ _ _ _ c.place_count.ensures.all c.place_count.ensures.some c.entry-entry.ensures.implied c.entry-entry.ensures.no_less stopped)

pub new-requires : goal.new-requires
new-requires c = c.place_count.ensures.some

pub sweep_to_fixpoint-requires : goal.sweep_to_fixpoint-requires
sweep_to_fixpoint-requires c = rw c.in_ok-state_table.ensures (spanned _ _ _ _ c.place_count.ensures.all (first_count _ _))

pub returns-in_err-state_table-clause-err : goal.returns-in_err-state_table-clause-err
returns-in_err-state_table-clause-err c =
    let p = err_from_is_err_and c.from_residual.result c.from_residual.ensures.1 in
    rw (p.1, p.2) tt
