use Rattle.std.proofs.Common.{refl, ap, ◌∙◌, sym, arith}
use Rattle.aom_scheduler.specs.PriorityList.{ready_ids}
use Rattle.aom_scheduler.proofs.Ready.{ready-placed}
use Rattle.aom_scheduler.proofs.schedule.Schedule.insert.Goals as goal

pub invariant_of-self : goal.invariant_of-self
invariant_of-self c = (
  c.self.invariant.0 ∙ sym (ap (λ r. ready_ids r.entries) c.insert.ensures ∙ ready-placed _ c.self.inside.order.entries refl),
  omega (arith, c.self.invariant.1, ap (λ r. r.limit) c.insert.ensures),
)
