-- What is readied first is what the last change is made of.
use Rattle.std.proofs.Common.{arith, rules}
use Rattle.std.proofs.lemmas.Result.{IfOk-weaker, IfOk-from_err}
use Rattle.aom_abstract_state.proofs.Piling.{extends_along}
use Rattle.aom_abstract_state.proofs.entry_stacks.EntryStacks.changed.Goals as goal

pub returns-in_err-ready-clause-stands : goal.returns-in_err-ready-clause-stands
returns-in_err-ready-clause-stands c = IfOk-from_err _ _ c.from_residual.ensures.0

pub returns-in_err-ready-clause-height : goal.returns-in_err-ready-clause-height
returns-in_err-ready-clause-height c = IfOk-from_err _ _ c.from_residual.ensures.0

pub returns-in_err-ready-clause-value : goal.returns-in_err-ready-clause-value
returns-in_err-ready-clause-value c = IfOk-from_err _ _ c.from_residual.ensures.0

pub returns-in-Same-clause-value : goal.returns-in-Same-clause-value
returns-in-Same-clause-value c = rw c.in-Same.is c.in_ok-ready.ensures.value

pub returns-in-More-clause-kept : goal.returns-in-More-clause-kept
returns-in-More-clause-kept c = extends_along _ _ _ c.made_ready_perhaps.ensures.kept c.push.ensures.kept

pub returns-in-More-clause-stands : goal.returns-in-More-clause-stands
returns-in-More-clause-stands c = c.push.ensures.stands

pub returns-in-More-clause-height : goal.returns-in-More-clause-height
returns-in-More-clause-height c = IfOk-weaker c.push.result _ _ (λ p h. omega (arith, c.in_ok-ready.ensures.height)) c.push.ensures.height

pub returns-in-Fewer-clause-height : goal.returns-in-Fewer-clause-height
returns-in-Fewer-clause-height c = omega (arith, c.in_ok-ready.ensures.height)

pub returns-in-Fewer-clause-value : goal.returns-in-Fewer-clause-value
returns-in-Fewer-clause-value c = search rules
