-- The debugger is of as many natives as there are boxes; memory is wanting where the machine has booted.
use Rattle.std.proofs.Common.{◌≡◌, length, subst}
use Rattle.std.proofs.lemmas.Result.{IfErr-weaker, IfOk-weaker}
use Rattle.std.specs.Prelude.{IfOk}
use Rattle.aom_run.specs.Calls.{natives_of}
use Rattle.aom_debug.proofs.CommandsLemmas.{given_all, has_enough, wants_memory}
use Rattle.aom_debug.specs.Beginning.{IsBegun}
use Rattle.aom_debug.proofs.debugging.begin.Goals as goal

pub returns-in-Ok-clause-begun : goal.returns-in-Ok-clause-begun
returns-in-Ok-clause-begun g c =
    let slots = c.in-Ok.machine.natives.slots.items in
    let count : natives_of c.in-Ok.machine ≡ length c.args.boxes.items = given_all (λ l. l.native) slots c.args.boxes.items c.in-Ok.ensures.boxes in
    subst (λ n. IfOk c.begun.result (λ d. IsBegun c.args.names c.args.accepted.now c.args.script c.args.limit n d)) count c.begun.ensures.begun

pub returns-in-Ok-clause-err : goal.returns-in-Ok-clause-err
returns-in-Ok-clause-err g c =
    let machine = c.in-Ok.machine in
    let natives = length c.args.boxes.items in
    let count : natives_of machine ≡ natives = given_all (λ l. l.native) machine.natives.slots.items c.args.boxes.items c.in-Ok.ensures.boxes in
    let enough = has_enough c.args.accepted.now machine natives c.in-Ok.ensures.image count c.in-Ok.ensures.stands in
    IfErr-weaker c.begun.result _ _ (λ fault is. wants_memory c.args.accepted.now natives fault is enough) c.begun.ensures.err

pub returns-in-Ok-clause-boxes : goal.returns-in-Ok-clause-boxes
returns-in-Ok-clause-boxes g c = IfOk-weaker c.begun.result _ _ (λ d same. rw same c.in-Ok.ensures.boxes) c.begun.ensures.machine
