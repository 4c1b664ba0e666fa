use Rattle.aom_active_objects.proofs.Signals.{signal_count_from}
use Rattle.aom_active_objects.proofs.active.ActiveObjects.signals.Goals as goal

pub returns : goal.returns
returns c = signal_count_from _ c.self.view_is c.self.invariant c.signals.result c.signals.ensures.value
