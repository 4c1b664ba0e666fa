-- An enlisted object is told by its request.
use Rattle.std.proofs.Common.{◌≡◌, ◌∙◌, FitsSigned, Some, ap, length, rules, sym, w32}
use Rattle.std.proofs.lemmas.Int.{to_z-of_z}
use Rattle.aom_cells.specs.Heap.{class_at}
use Rattle.aom_clients.specs.Clients.{queue_at}
use Rattle.aom_debug_views.proofs.Enlisted.{classless_reported, enlisted_reported, server_reported, unasked_reported}
use Rattle.aom_debug_views.proofs.actives.entry_answer.Goals as goal

pub returns-in_err-class-clause-reported : goal.returns-in_err-class-clause-reported
returns-in_err-class-clause-reported c = λ p s st _.
    let m = c.args.parts.now in
    rw c.from_residual.ensures (classless_reported p m s st c.args.entry.id (c.in_err-class.ensures ∙ ap (class_at m.cells) c.number.ensures.value))

pub returns-then-is_server-clause-reported : goal.returns-then-is_server-clause-reported
returns-then-is_server-clause-reported c = λ p s st has.
    let m = c.args.parts.now in
    let priority = c.args.entry.priority in
    let ranked : FitsSigned w32 priority = search rules in
    let many = c.queued-queued.ensures ∙ ap (λ n. length (queue_at m.clients n)) c.number-then-is_server.ensures.value in
    rw (to_z-of_z w32 priority ranked)
    (server_reported p m s st _ _ _ _ has (sym c.if-is_server.ensures) many (c.in_ok-class.ensures ∙ ap (class_at m.cells) c.number.ensures.value))

pub returns-in_err-state-clause-reported : goal.returns-in_err-state-clause-reported
returns-in_err-state-clause-reported c = λ p s st _. rw c.from_residual-in_err-state.ensures (unasked_reported p _ s st _ c.in_err-state.ensures (sym c.if-is_server.ensures))

pub returns-clause-reported : goal.returns-clause-reported
returns-clause-reported c = λ p s st has.
    let m = c.args.parts.now in
    let id = c.args.entry.id in
    let priority = c.args.entry.priority in
    let status = c.status-status.result in
    let ranked : FitsSigned w32 priority = search rules in
    let ended : FitsSigned w32 status = search rules in
    let class : Some c.in_ok-class.class ≡ class_at m.cells id = c.in_ok-class.ensures ∙ ap (class_at m.cells) c.number.ensures.value in
    rw (to_z-of_z w32 priority ranked, to_z-of_z w32 status ended, c.phase_of.ensures)
    (enlisted_reported p m s st id _ _ _ _ has c.in_ok-state.ensures c.status-status.ensures class)
