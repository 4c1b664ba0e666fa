use Rattle.std.proofs.Common.{sym, subst, ap, ◌∙◌, arith, Some}
use Rattle.std.specs.Prelude.{insert, slice_set}
use Rattle.std.proofs.lemmas.List.{length-set}
use Rattle.aom_scheduler.specs.Order.{placed}
use Rattle.aom_scheduler.specs.Pending.{no_later, timer_of}
use Rattle.aom_scheduler.specs.DueTimes.{IsTimed}
use Rattle.aom_scheduler.proofs.Timing.{same_pending, ok_by_room, setting-from}
use Rattle.aom_scheduler.proofs.timers.Timers.after.Goals as goal
use Rattle.std.proofs.lemmas.Result.{IfOk-at_ok}

pub unwrap-requires : goal.unwrap-requires
unwrap-requires c =
    let t = timer_of c.args.id c.args.due in
    let made = setting-from c.place_for-at.result t c.self.view_is c.self.invariant.0 c.requires.below c.requires.unset c.place_for-at.ensures.bound
    c.place_for-at.ensures.point in
    ok_by_room c.insert.result _ _ c.insert.ensures.full (omega (arith, made.room, c.self.invariant.1, c.self.inside.queue.ok.0))

pub invariant_of-self : goal.invariant_of-self
invariant_of-self c =
    let t = timer_of c.args.id c.args.due in
    let made = setting-from c.place_for-at.result t c.self.view_is c.self.invariant.0 c.requires.below c.requires.unset c.place_for-at.ensures.bound
    c.place_for-at.ensures.point in
    let items = IfOk-at_ok _ c.unwrap.ensures c.insert.ensures.items in
    let due_times = c.self.inside.due_times.items in
    let timed = subst (λ k. IsTimed (insert c.self.inside.queue.items c.place_for-at.result t) (slice_set due_times k (Some t.due))) (sym c.number.ensures.value)
    made.timed in (
      subst (λ ts. IsTimed ts (slice_set due_times c.number.result (Some t.due))) (sym items) timed,
      omega (arith, length-set due_times c.number.result (Some t.due), c.self.invariant.1, c.insert.ensures.capacity),
      omega (arith, length-set due_times c.number.result (Some t.due), c.self.invariant.2),
    )

pub returns : goal.returns
returns c =
    let t = timer_of c.args.id c.args.due in
    let made = setting-from c.place_for-at.result t c.self.view_is c.self.invariant.0 c.requires.below c.requires.unset c.place_for-at.ensures.bound
    c.place_for-at.ensures.point in
    let items = IfOk-at_ok _ c.unwrap.ensures c.insert.ensures.items in
    same_pending _ _ _ _ (items ∙ made.is ∙ ap (λ p. placed no_later t p.timers) c.self.view_is)
    (length-set c.self.inside.due_times.items c.number.result (Some t.due) ∙ ap (λ p. p.limit) c.self.view_is)
