-- What the machine sent is what its outcome shows; memory is wanting where it has booted.
use Rattle.std.proofs.Common.{length}
use Rattle.std.proofs.lemmas.Result.{IfErr-weaker, IfOk-weaker}
use Rattle.aom_commands.proofs.Tries.{wants_memory}
use Rattle.aom_commands.proofs.running.run_accepted.Goals as goal

pub returns-clause-ok : goal.returns-clause-ok
returns-clause-ok g c = rw (← c.in_ok-machine.ensures.natives) c.run_booted-outcome.ensures.ok

pub returns-clause-enough : goal.returns-clause-enough
returns-clause-enough g c = IfOk-weaker c.run_booted-outcome.result _ _ (λ _ _. c.in_ok-machine.ensures.enough) c.run_booted-outcome.ensures.ok

pub returns-clause-err : goal.returns-clause-err
returns-clause-err g c = IfErr-weaker c.run_booted-outcome.result _ _ (λ fault wants.
    (wants_memory c.args.accepted.now (length c.args.boxes.items) fault wants.0 c.in_ok-machine.ensures.enough, wants.1)) c.run_booted-outcome.ensures.err
