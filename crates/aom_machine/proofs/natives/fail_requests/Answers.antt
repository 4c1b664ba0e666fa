-- What is outstanding is pending in the table.
use Rattle.std.proofs.Common.{sym, ◌∙◌, rules}
use Rattle.aom_scheduler.specs.Requests.{request_at}
use Rattle.aom_machine.proofs.Killing.{spares, terminates}
use Rattle.aom_machine.proofs.MachineStateLemmas.{pending_reported}
use Rattle.aom_machine.proofs.natives.fail_requests.Goals as goal
use Rattle.aom_machine.proofs.natives.fail_requests.Goals.{then-is_pending, else-is_pending}

pub complete-requires : goal.complete-requires
complete-requires c =
    let asked = c.requires.0 in
    let queues = c.requires.1 in
    pending_reported (request_at c.args.parts.now.active.table c.args.id) (asked c.args.id)
    (queues c.args.id) (c.requires.2.reports c.args.id) c.requires.3 (sym (c.is_pending.ensures asked queues c.requires.2) ∙ c.if-is_pending.true)

pub returns-clause-requests : goal.returns-clause-requests
returns-clause-requests c = λ asked queues stands. elim c.if-is_pending.branch [
  | then-is_pending w ↦ rw w.parts-is (terminates c.args.parts.now.active w.complete.new.self c.args.id asked queues stands
      (sym (c.is_pending.ensures asked queues stands) ∙ w.if-is_pending.true) w.complete.ensures)
  | else-is_pending w ↦ rw w.parts-is
      (spares c.args.parts.now.active c.args.id asked queues stands (sym (c.is_pending.ensures asked queues stands) ∙ w.if-is_pending.false))
]

pub returns-clause-sessions : goal.returns-clause-sessions
returns-clause-sessions c = search rules
