use Rattle.std.proofs.lemmas.Grind.{common_steps}
use Rattle.std.proofs.Common.{arith}
use Rattle.aom_abstract_state.proofs.flow.judge_all.Goals as goal

pub loop-holds-preserved : goal.loop-holds-preserved
loop-holds-preserved c = grind (arith, common_steps)
