use Rattle.aom_semantics.proofs.Running.{servers_run as law}
use Rattle.aom_semantics.proofs.laws.servers_run.Goals as goal

pub returns : goal.returns
returns c = law
