use Rattle.aom_clients.proofs.Draining.{past-stays}
use Rattle.aom_clients.proofs.withdrawal.withdraw_all.Goals as goal

pub discard-requires-clause-within : goal.discard-requires-clause-within
discard-requires-clause-within c = past-stays _ _ c.args.client _ _ c.withdraw-freed.ensures.sent c.withdraw-freed.ensures.places c.requires.past
