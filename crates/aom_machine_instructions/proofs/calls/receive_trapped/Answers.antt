-- The method that trapped goes on where it did.
use Rattle.aom_machine_instructions.proofs.Resulting.{resulted_goes_on}
use Rattle.aom_machine_instructions.proofs.calls.receive_trapped.Goals as goal

pub take_result-requires-clause-runs : goal.take_result-requires-clause-runs
take_result-requires-clause-runs c = c.requires.runs

pub take_result-requires-clause-within : goal.take_result-requires-clause-within
take_result-requires-clause-within c = c.result_of-to.ensures.in_range

pub set_and_advance-requires-clause-runs : goal.set_and_advance-requires-clause-runs
set_and_advance-requires-clause-runs c =
    let on = resulted_goes_on c.args.gives c.result_of-to.result c.args.number c.args.parts.now (record { runs = c.requires.runs; within = c.requires.within }) in
    rw c.take_result.ensures on.runs

pub set_and_advance-requires-clause-place : goal.set_and_advance-requires-clause-place
set_and_advance-requires-clause-place c =
    let on = resulted_goes_on c.args.gives c.result_of-to.result c.args.number c.args.parts.now (record { runs = c.requires.runs; within = c.requires.within }) in
    rw c.take_result.ensures on.within
