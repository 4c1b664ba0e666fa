use Rattle.std.proofs.Common.{◌≡◌, ◌<◌, ◌∙◌, IfSome, ap, arith, false, length, subst, sym, true}
use Rattle.aom_clients.specs.Lists.{IsOnce}
use Rattle.aom_clients.specs.Clients.{ClientsState, client_at, first_there, sessions_at}
use Rattle.aom_clients.specs.Table.{has_cell}
use Rattle.aom_clients.proofs.Looking.{after-in, first-in, found, from, from-first, from-next, looked}
use Rattle.aom_clients.proofs.Steps.{has-there}
use Rattle.aom_clients.proofs.clients.Clients.first_there.Goals as goal

pub loop-next-init : goal.loop-next-init
loop-next-init c =
    let xs = sessions_at c.args.self.now c.args.server in
    let first = c.first_session-next.ensures.value in
    record {
      inside = λ d e. first-in d xs (sym first ∙ e);
      below = λ d e. subst (λ o. IfSome o (λ k. k < 64)) e c.first_session-next.ensures.below;
      rest = ap (λ o. first_there c.args.self.now (from o xs)) first ∙ ap (first_there c.args.self.now) (from-first xs);
    }

pub returns-then-has_cell-clause-value : goal.returns-then-has_cell-clause-value
returns-then-has_cell-clause-value c =
    let s = c.args.self.now in
    let xs = sessions_at s c.args.server in
    let once : IsOnce xs = subst (λ (s : ClientsState). IsOnce (sessions_at s c.args.server)) c.self.view_is (c.in_order.ensures.once c.args.server) in
    let some : has_cell (client_at s c.in-Some.client) ≡ true = ap has_cell (sym c.client.ensures.value) ∙ sym c.has_cell.ensures ∙ c.if-has_cell.true in
    sym (found s c.in-Some.client xs once (c.loop-next.invariant.inside c.in-Some.client c.in-Some.is) some)
    ∙ ap (λ o. first_there s (from o xs)) (sym c.in-Some.is) ∙ c.loop-next.invariant.rest

pub loop-next-smaller : goal.loop-next-smaller
loop-next-smaller c =
    let xs = sessions_at c.args.self.now c.args.server in
    let once : IsOnce xs = subst (λ (s : ClientsState). IsOnce (sessions_at s c.args.server)) c.self.view_is (c.in_order.ensures.once c.args.server) in
    let next = from-next c.in-Some.client xs once (c.loop-next.invariant.inside c.in-Some.client c.in-Some.is) in
    omega (arith, ap (λ o. length (from o xs)) c.next_session-next.ensures.value, ap (λ o. length (from o xs)) c.in-Some.is, ap length next)

pub loop-next-preserved : goal.loop-next-preserved
loop-next-preserved c =
    let s = c.args.self.now in
    let xs = sessions_at s c.args.server in
    let once : IsOnce xs = subst (λ (s : ClientsState). IsOnce (sessions_at s c.args.server)) c.self.view_is (c.in_order.ensures.once c.args.server) in
    let none : has_cell (client_at s c.in-Some.client) ≡ false = ap has_cell (sym c.client.ensures.value) ∙ sym c.has_cell.ensures ∙ c.if-has_cell.false in
    let next = c.next_session-next.ensures.value in
    record {
      inside = λ d e. after-in c.in-Some.client d xs (sym next ∙ e);
      below = λ d e. subst (λ o. IfSome o (λ k. k < 64)) e c.next_session-next.ensures.below;
      rest = ap (λ o. first_there s (from o xs)) next ∙ sym (looked s c.in-Some.client xs once (c.loop-next.invariant.inside c.in-Some.client c.in-Some.is)
          none) ∙ ap (λ o. first_there s (from o xs)) (sym c.in-Some.is) ∙ c.loop-next.invariant.rest;
    }

pub first_session-next-requires : goal.first_session-next-requires
first_session-next-requires c = c.requires

pub client-requires : goal.client-requires
client-requires c = c.loop-next.invariant.below c.in-Some.client c.in-Some.is

pub returns-then-has_cell-clause-below : goal.returns-then-has_cell-clause-below
returns-then-has_cell-clause-below c = c.loop-next.invariant.below c.in-Some.client c.in-Some.is

pub next_session-next-requires : goal.next_session-next-requires
next_session-next-requires c =
    has-there _ _ _ _ _ _ c.self.invariant _ c.self.view_is c.args.server c.in-Some.client (c.loop-next.invariant.inside c.in-Some.client c.in-Some.is)

pub returns-clause-value : goal.returns-clause-value
returns-clause-value c = ap (λ o. first_there c.args.self.now (from o (sessions_at c.args.self.now c.args.server))) (sym c.in_default.is)
    ∙ c.loop-next.invariant.rest
