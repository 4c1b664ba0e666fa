-- Settled states are a typing of the method, and where the sweeps end early their states stop at a place.
use Rattle.aom_verify.proofs.Stopping.{stops_there}
use Rattle.aom_verify.proofs.Sweeping.{settled, first_count}
use Rattle.aom_verify.proofs.Places.{spanned}
use Rattle.aom_verify.proofs.stop.stop_of.Goals as goal

pub returns-in-Ok-clause-none : goal.returns-in-Ok-clause-none
returns-in-Ok-clause-none c =
    let strongest = settled _ _ _ _ _ c.place_count.ensures.some c.entry-entry.ensures.implied c.entry-entry.ensures.no_less
    (rw c.in_ok-state_table.ensures at c.in-Ok.ensures.ok) in
    record { states = _; typed = strongest.typed }

pub returns-in-Err-At-clause-some : goal.returns-in-Err-At-clause-some
returns-in-Err-At-clause-some c =
    let stopped = rw (c.in_ok-state_table.ensures, c.in-Err-At.field-0-is) at c.in-Err-At.ensures.err in
    stops_there _ _ _ _ _ _ _ c.place_count.ensures.some c.entry-entry.ensures.implied c.entry-entry.ensures.no_less stopped

pub new-requires : goal.new-requires
new-requires c = c.place_count.ensures.some

pub sweep_to_fixpoint-requires : goal.sweep_to_fixpoint-requires
sweep_to_fixpoint-requires c = rw c.in_ok-state_table.ensures (spanned _ _ _ _ c.place_count.ensures.all (first_count _ _))
