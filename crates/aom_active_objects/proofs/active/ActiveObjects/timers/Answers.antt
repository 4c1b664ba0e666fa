use Rattle.std.proofs.Common.{Some, rules, subst, ◌≡◌}
use Rattle.std.specs.Prelude.{All}
use Rattle.aom_active_objects.proofs.SchedulerLemmas.{due-each}
use Rattle.aom_scheduler.specs.Pending.{due_of}
use Rattle.aom_active_objects.proofs.active.ActiveObjects.timers.Goals as goal

pub returns-clause-each : goal.returns-clause-each
returns-clause-each c =
    subst (λ a. All (λ t. due_of t.id a.pending.timers ≡ Some t.due) a.pending.timers) c.self.view_is (due-each _ c.in_order.ensures.distinct)

pub returns-clause-value : goal.returns-clause-value
returns-clause-value c = search rules
