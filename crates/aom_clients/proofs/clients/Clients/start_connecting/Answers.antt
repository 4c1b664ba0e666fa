use Rattle.std.proofs.Common.{◌≡◌, ◌<◌, ◌+◌, ◌++◌, ◌∷◌, [], refl, sym, ap, ◌∙◌, subst}
use Rattle.aom_clients.specs.Lists.{IsFree, list_at, with_list}
use Rattle.aom_clients.proofs.Same.{kept-as, state-as}
use Rattle.aom_clients.proofs.clients.Clients.start_connecting.Goals as goal
use Rattle.aom_clients.proofs.Steps.{cell, connect-free, connect-unlisted, connected}

pub push_last-requires-clause-free : goal.push_last-requires-clause-free
push_last-requires-clause-free c = subst (IsFree c.self.inside.queues) (sym c.connect_node.ensures) (connect-free _ _ _ _ _ _ c.self.invariant _ c.self.view_is
    c.args.client c.args.server c.args.slots c.requires.client c.requires.server c.requires.slots c.requires.away)

pub push_last-requires-2-clause-free : goal.push_last-requires-2-clause-free
push_last-requires-2-clause-free c = connect-unlisted _ _ _ _ _ _ c.self.invariant _ c.self.view_is c.args.client c.args.server c.args.slots c.requires.client
    c.requires.server c.requires.slots c.requires.away

pub invariant_of-self : goal.invariant_of-self
invariant_of-self c =
    let made = connected _ _ _ _ _ _ c.self.invariant _ c.self.view_is c.args.client c.args.server c.args.slots c.requires.client c.requires.server
    c.requires.slots c.requires.away in
    let q = c.self.inside.queues in
    let queue : c.push_last.new.self ≡ with_list c.args.server (list_at q c.args.server ++ (1024 + c.args.client) ∷ []) q =
    c.push_last.ensures ∙ ap (λ n. with_list c.args.server (list_at q c.args.server ++ n ∷ []) q) c.connect_node.ensures in
    kept-as _ _ _ _ _ _ _ _ _ _ _ _ refl refl queue c.push_last-2.ensures refl refl made.kept

pub returns : goal.returns
returns c =
    let made = connected _ _ _ _ _ _ c.self.invariant _ c.self.view_is c.args.client c.args.server c.args.slots c.requires.client c.requires.server
    c.requires.slots c.requires.away in
    let q = c.self.inside.queues in
    let queue : c.push_last.new.self ≡ with_list c.args.server (list_at q c.args.server ++ (1024 + c.args.client) ∷ []) q =
    c.push_last.ensures ∙ ap (λ n. with_list c.args.server (list_at q c.args.server ++ n ∷ []) q) c.connect_node.ensures in
    state-as _ _ _ _ _ _ _ c.self.inside.sessions _ c.self.inside.sent refl refl queue refl refl ∙ made.seen

pub push_last-requires-clause-list : goal.push_last-requires-clause-list
push_last-requires-clause-list c = cell _ _ _ _ _ _ c.self.invariant _ c.self.view_is c.args.server c.requires.server

pub push_last-requires-2-clause-list : goal.push_last-requires-2-clause-list
push_last-requires-2-clause-list c = subst (λ n. c.args.server < n) (sym c.self.invariant.sized.connects_long)
    (cell _ _ _ _ _ _ c.self.invariant _ c.self.view_is c.args.server c.requires.server)

pub push_last-requires-2-clause-node : goal.push_last-requires-2-clause-node
push_last-requires-2-clause-node c = subst (λ n. c.args.client < n) (sym c.self.invariant.sized.connects_nodes) c.requires.client
