use Rattle.std.proofs.Common.{◌<◌, None, sym, subst, ap, ◌∙◌, arith}
use Rattle.std.specs.Prelude.{slice_set, remove}
use Rattle.std.specs.VecDeque.{deque_len}
use Rattle.std.proofs.lemmas.List.{length-set}
use Rattle.aom_scheduler.specs.Order.{without}
use Rattle.aom_scheduler.specs.DueTimes.{IsTimed}
use Rattle.aom_scheduler.proofs.Timing.{id_of, on_some, same_pending, ending-from}
use Rattle.aom_scheduler.proofs.timers.Timers.cancel.Goals as goal

pub invariant_of-self : goal.invariant_of-self
invariant_of-self c =
    let made = ending-from c.args.id c.self.view_is c.self.invariant.0 c.place-at.ensures in
    let within : c.place-at.result < deque_len c.self.inside.queue = omega (arith, made.within, c.self.inside.queue.ok.0) in
    let items = on_some c.remove.result (c.remove.ensures.variant.1 within) c.remove.ensures.items in
    let due_times = c.self.inside.due_times.items in
    let timed = subst (λ k. IsTimed (remove c.self.inside.queue.items c.place-at.result) (slice_set due_times k None)) (sym c.number.ensures.value) made.timed in (
      subst (λ ts. IsTimed ts (slice_set due_times c.number.result None)) (sym items) timed,
      omega (arith, length-set due_times c.number.result None, c.self.invariant.1, c.remove.ensures.capacity),
      omega (arith, length-set due_times c.number.result None, c.self.invariant.2),
    )

pub returns : goal.returns
returns c =
    let made = ending-from c.args.id c.self.view_is c.self.invariant.0 c.place-at.ensures in
    let within : c.place-at.result < deque_len c.self.inside.queue = omega (arith, made.within, c.self.inside.queue.ok.0) in
    let items = on_some c.remove.result (c.remove.ensures.variant.1 within) c.remove.ensures.items in
    same_pending _ _ _ _ (items ∙ made.is ∙ ap (λ p. without id_of c.args.id p.timers) c.self.view_is)
    (length-set c.self.inside.due_times.items c.number.result None ∙ ap (λ p. p.limit) c.self.view_is)
