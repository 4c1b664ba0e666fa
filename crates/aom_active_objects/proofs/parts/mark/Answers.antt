use Rattle.std.proofs.Common.{ap, sym, ◌∙◌}
use Rattle.aom_scheduler.specs.PriorityList.{marked}
use Rattle.aom_active_objects.proofs.parts.mark.Goals as goal

pub returns-then-is_ready : goal.returns-then-is_ready
returns-then-is_ready c =
    let s = c.args.schedule.now in
    c.set_ready.ensures ∙ ap (λ b. record s { entries = marked c.args.id b s.entries }) (sym c.if-is_ready.true)

pub returns-else-is_ready : goal.returns-else-is_ready
returns-else-is_ready c =
    let s = c.args.schedule.now in
    c.set_waiting.ensures ∙ ap (λ b. record s { entries = marked c.args.id b s.entries }) (sym c.if-is_ready.false)
