use Rattle.aom_clients.proofs.Answering.{waits, waits-not}
use Rattle.aom_clients.proofs.clients.Clients.is_queued.Goals as goal

pub returns-clause-value : goal.returns-clause-value
returns-clause-value c = waits _ _ _ _ _ _ c.self.invariant _ c.self.view_is c.args.server _ c.count.ensures

pub returns-clause-empty : goal.returns-clause-empty
returns-clause-empty c = waits-not _ _ _ _ _ _ c.self.invariant _ c.self.view_is c.args.server _ c.count.ensures
