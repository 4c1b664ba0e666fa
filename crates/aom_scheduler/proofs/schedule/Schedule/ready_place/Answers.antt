use Rattle.std.proofs.Common.{sym, subst, ap, ◌∙◌, pos, arith}
use Rattle.aom_scheduler.specs.PriorityList.{place, waiting}
use Rattle.aom_scheduler.specs.Ready.{IsReadyAt, IsWaitingAt}
use Rattle.aom_scheduler.proofs.Items.{place-at, at-within}
use Rattle.aom_scheduler.proofs.Places.{id_of}
use Rattle.aom_scheduler.proofs.Ready.{ready-at, waiting-at}
use Rattle.aom_scheduler.proofs.schedule.Schedule.ready_place.Goals as goal

pub is_ready-requires : goal.is_ready-requires
is_ready-requires c = at-within id_of c.args.id c.self.inside.order.entries c.args.at_place
    (place-at id_of c.args.id c.self.inside.order.entries c.args.at_place (ap (place c.args.id) c.self.view_is ∙ c.requires))

pub ready_before-at-requires : goal.ready_before-at-requires
ready_before-at-requires c =
    let entries = c.args.self.now.entries in
    omega (arith, at-within id_of c.args.id entries c.args.at_place (place-at id_of c.args.id entries c.args.at_place c.requires))

pub returns-then-is_ready-clause-ready : goal.returns-then-is_ready-clause-ready
returns-then-is_ready-clause-ready c = subst (λ s. IsReadyAt s c.args.id c.ready_before-at.result) c.self.view_is
    (ready-at _ c.args.id _ _ (waiting 0 (pos 0)) c.in_order.ensures (place-at id_of c.args.id _ _ (ap (place c.args.id) c.self.view_is ∙ c.requires))
    (rw c.self.view_is c.ready_before-at.ensures) (sym (c.is_ready.ensures _) ∙ c.if-is_ready.true))

pub returns-else-is_ready-clause-waiting : goal.returns-else-is_ready-clause-waiting
returns-else-is_ready-clause-waiting c = subst (λ s. IsWaitingAt s c.args.id c.ready_before-at.result) c.self.view_is
    (waiting-at _ c.args.id _ _ (waiting 0 (pos 0)) c.in_order.ensures (place-at id_of c.args.id _ _ (ap (place c.args.id) c.self.view_is ∙ c.requires))
    (rw c.self.view_is c.ready_before-at.ensures) (sym (c.is_ready.ensures _) ∙ c.if-is_ready.false))
