use Rattle.std.proofs.Common.{ap, arith, length, sym, ◌∙◌}
use Rattle.aom_scheduler.specs.Pending.{Pending}
use Rattle.aom_active_objects.specs.Agrees.{Active}
use Rattle.aom_active_objects.proofs.Calls.{is_first_due, none_completes, times_out}
use Rattle.aom_active_objects.proofs.Firsts.{fewer_left}
use Rattle.aom_active_objects.proofs.active.ActiveObjects.due.Goals as goal

pub returns-in_err-id-clause-completes : goal.returns-in_err-id-clause-completes
returns-in_err-id-clause-completes c = none_completes _ c.self.view_is c.self.invariant c.args.now c.due.new.self c.from_residual.result c.from_residual.ensures
    (sym c.due.ensures.value ∙ c.in_err-id.was) c.due.ensures.left

pub invariant_of-self-2 : goal.invariant_of-self-2
invariant_of-self-2 c = (times_out _ c.self.view_is
    c.self.invariant c.in_ok-id.id c.args.now c.complete.new.self c.mark.new.schedule c.due.new.self c.is_ready-is_ready.result c.in_order.ensures.timers
    (sym c.due.ensures.value ∙ c.in_ok-id.was) c.complete.ensures.completed c.is_ready-is_ready.ensures.ready c.mark.ensures c.due.ensures.left).whole

pub returns-clause-completes : goal.returns-clause-completes
returns-clause-completes c = (
  (times_out _ c.self.view_is c.self.invariant c.in_ok-id.id c.args.now c.complete.new.self c.mark.new.schedule c.due.new.self _ c.in_order.ensures.timers
      (sym c.due.ensures.value ∙ c.in_ok-id.was) c.complete.ensures.completed c.is_ready-is_ready.ensures.ready c.mark.ensures c.due.ensures.left).makes,
  is_first_due _ c.self.view_is c.self.invariant c.args.now c.in_ok-id.id (sym c.due.ensures.value ∙ c.in_ok-id.was),
)

pub returns-clause-fewer : goal.returns-clause-fewer
returns-clause-fewer c =
    let left = ap (λ (p : Pending). length p.timers) c.due.ensures.left in
    let fewer = fewer_left c.args.now c.in_ok-id.id _ (sym c.due.ensures.value ∙ c.in_ok-id.was) in
    let inside = ap (λ (a : Active). length a.pending.timers) c.self.view_is in
    omega (arith, left, fewer, inside)
