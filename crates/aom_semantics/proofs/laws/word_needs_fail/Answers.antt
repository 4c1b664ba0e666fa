use Rattle.aom_semantics.proofs.NeedsFail.{word_needs_fail as law}
use Rattle.aom_semantics.proofs.laws.word_needs_fail.Goals as goal

pub returns : goal.returns
returns c = law
