use Rattle.std.proofs.Common.{◌≡◌, drop}
use Rattle.aom_abstract_state.specs.Needs.{tested}
use Rattle.aom_abstract_state.proofs.flow.judge_all.Given as goal

abbrev pub invariant-loop-holds : goal.invariant-loop-holds
invariant-loop-holds l = tested l.needs ≡ tested (drop l.holds-index l.needs)
