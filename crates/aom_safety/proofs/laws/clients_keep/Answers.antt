use Rattle.aom_safety.proofs.ClientsKeep.{clients_keep as law}
use Rattle.aom_safety.proofs.laws.clients_keep.Goals as goal

pub returns : goal.returns
returns c = law
