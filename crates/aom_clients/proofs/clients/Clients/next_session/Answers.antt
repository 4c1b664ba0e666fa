use Rattle.std.proofs.Common.{◌<◌, ◌∙◌, IfSome, sym, subst, arith}
use Rattle.aom_clients.proofs.clients.Clients.next_session.Goals as goal
use Rattle.aom_clients.proofs.Answering.{next-small, after-is}
use Rattle.aom_clients.proofs.Steps.{is-there}

pub returns-in_err-next-clause-value : goal.returns-in_err-next-clause-value
returns-in_err-next-clause-value c = c.from_residual.ensures ∙ c.in_err-next.ensures
    ∙ after-is _ _ _ _ _ _ c.self.invariant _ c.self.view_is c.args.server c.args.client

pub overflow_cast-result : goal.overflow_cast-result
overflow_cast-result c =
    omega (arith, next-small _ _ _ _ _ _ c.self.invariant _ c.self.view_is c.args.server c.args.client c.in_ok-next.next (sym c.in_ok-next.ensures))

pub returns-clause-value : goal.returns-clause-value
returns-clause-value c = c.in_ok-next.ensures ∙ after-is _ _ _ _ _ _ c.self.invariant _ c.self.view_is c.args.server c.args.client

pub returns-clause-below : goal.returns-clause-below
returns-clause-below c = next-small _ _ _ _ _ _ c.self.invariant _ c.self.view_is c.args.server c.args.client c.in_ok-next.next (sym c.in_ok-next.ensures)

pub next-requires : goal.next-requires
next-requires c = is-there _ _ _ _ _ _ c.self.invariant _ c.self.view_is c.args.server c.args.client c.requires

pub returns-in_err-next-clause-below : goal.returns-in_err-next-clause-below
returns-in_err-next-clause-below c = subst (λ o. IfSome o (λ d. d < 64)) (sym c.from_residual.ensures) tt
