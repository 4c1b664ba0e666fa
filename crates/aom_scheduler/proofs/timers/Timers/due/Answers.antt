use Rattle.std.proofs.Common.{◌<◌, None, refl, sym, subst, length, arith, rules}
use Rattle.std.specs.Prelude.{slice_set, remove}
use Rattle.std.proofs.lemmas.List.{length-set}
use Rattle.aom_scheduler.specs.DueTimes.{IsTimed}
use Rattle.aom_scheduler.proofs.Timing.{ending, front-at}
use Rattle.aom_scheduler.proofs.timers.Timers.due.Goals as goal

pub invariant_of-self : goal.invariant_of-self
invariant_of-self c =
    let timers = c.self.inside.queue.items in
    let due_times = c.self.inside.due_times.items in
    let t = c.in_ok-timer.field-0.now in
    let some : 0 < length timers = omega (arith, c.in_ok-timer.ensures.variant.0 refl, c.self.inside.queue.ok.0) in
    let made = ending timers due_times 0 t.id c.self.invariant.0 (front-at timers t some c.in_ok-timer.ensures.lookup) in
    let timed = subst (λ k. IsTimed (remove timers 0) (slice_set due_times k None)) (sym c.number.ensures.value) made.timed in (
      subst (λ ts. IsTimed ts (slice_set due_times c.number.result None)) (sym c.pop_front.ensures.rest) timed,
      omega (arith, length-set due_times c.number.result None, c.self.invariant.1, c.pop_front.ensures.capacity),
      omega (arith, length-set due_times c.number.result None, c.self.invariant.2),
    )

pub returns-clause-left : goal.returns-clause-left
returns-clause-left c = search rules

pub returns-clause-value : goal.returns-clause-value
returns-clause-value c = search rules
