use Rattle.aom_verify.proofs.states.lowered.Goals as goal

pub returns-then-weaker_kept-clause-ok : goal.returns-then-weaker_kept-clause-ok
returns-then-weaker_kept-clause-ok c = c.weaker_kept.ensures.0 c.if-weaker_kept.true
