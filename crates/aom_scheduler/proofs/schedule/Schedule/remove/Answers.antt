use Rattle.std.proofs.Common.{◌≡◌, false, sym, subst, ap, ◌∙◌, arith}
use Rattle.std.specs.Prelude.{IsSome}
use Rattle.aom_scheduler.specs.Order.{without}
use Rattle.aom_scheduler.specs.PriorityList.{IsEnlisted, ready_ids, marked}
use Rattle.aom_scheduler.proofs.Places.{id_of, marked-place, same_priority_list}
use Rattle.aom_scheduler.proofs.Ready.{ready-without, without-marked}
use Rattle.aom_scheduler.proofs.schedule.Schedule.remove.Goals as goal

pub remove-requires : goal.remove-requires
remove-requires c = subst (IsEnlisted c.args.id) (sym (c.self.view_is ∙ c.set_waiting.ensures))
    (subst (λ o. IsSome o) (sym (marked-place c.args.id false c.args.id c.args.self.now.entries)) c.requires)

pub invariant_of-self : goal.invariant_of-self
invariant_of-self c =
    let waits : c.self.inside.order.entries ≡ marked c.args.id false c.args.self.now.entries = ap (λ r. r.entries) (c.self.view_is ∙ c.set_waiting.ensures) in
    let left = ap (λ r. ready_ids r.entries) c.remove.ensures ∙ ap (λ xs. ready_ids (without id_of c.args.id xs)) waits in (
      c.self.invariant.0 ∙ ap ready_ids waits ∙ sym (left ∙ ready-without c.args.id c.args.self.now.entries),
      omega (arith, c.self.invariant.1, ap (λ r. r.limit) c.remove.ensures),
    )

pub returns : goal.returns
returns c =
    let waits = c.self.view_is ∙ c.set_waiting.ensures in
    c.remove.ensures ∙ same_priority_list _ _ _ _ (ap (λ r. without id_of c.args.id r.entries) waits ∙ without-marked c.args.id false c.args.self.now.entries)
    (ap (λ r. r.limit) waits)
