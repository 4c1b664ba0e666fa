use Rattle.std.proofs.Common.{◌<◌, ◌∙◌, IfSome, sym, subst, arith}
use Rattle.aom_clients.proofs.clients.Clients.first_session.Goals as goal
use Rattle.aom_clients.proofs.Answering.{first-is, first-small}
use Rattle.aom_clients.proofs.Steps.{sessions-cell}

pub overflow_cast-result : goal.overflow_cast-result
overflow_cast-result c = omega (arith, first-small _ _ _ _ _ _ c.self.invariant _ c.self.view_is c.args.server c.in_ok-first.first (sym c.in_ok-first.ensures))

pub returns-clause-below : goal.returns-clause-below
returns-clause-below c = first-small _ _ _ _ _ _ c.self.invariant _ c.self.view_is c.args.server c.in_ok-first.first (sym c.in_ok-first.ensures)

pub first-requires : goal.first-requires
first-requires c = sessions-cell _ _ _ _ _ _ c.self.invariant _ c.self.view_is c.args.server c.requires

pub returns-in_err-first-clause-value : goal.returns-in_err-first-clause-value
returns-in_err-first-clause-value c = c.from_residual.ensures ∙ c.in_err-first.ensures ∙ first-is _ _ _ _ _ _ c.self.invariant _ c.self.view_is c.args.server

pub returns-in_err-first-clause-below : goal.returns-in_err-first-clause-below
returns-in_err-first-clause-below c = subst (λ o. IfSome o (λ d. d < 64)) (sym c.from_residual.ensures) tt

pub returns-clause-value : goal.returns-clause-value
returns-clause-value c = c.in_ok-first.ensures ∙ first-is _ _ _ _ _ _ c.self.invariant _ c.self.view_is c.args.server
