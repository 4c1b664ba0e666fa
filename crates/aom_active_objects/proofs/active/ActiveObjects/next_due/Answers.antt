use Rattle.aom_active_objects.proofs.DueTimes.{next_due_from}
use Rattle.aom_active_objects.proofs.active.ActiveObjects.next_due.Goals as goal

pub returns-clause-next : goal.returns-clause-next
returns-clause-next c = next_due_from _ c.self.view_is c.next_due.result c.next_due.ensures
