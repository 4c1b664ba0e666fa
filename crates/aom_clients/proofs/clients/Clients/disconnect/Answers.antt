use Rattle.std.proofs.Common.{◌≡◌, ◌+◌, refl, ap, ◌∙◌}
use Rattle.std.specs.Prelude.{map}
use Rattle.aom_clients.specs.Lists.{without}
use Rattle.aom_clients.specs.Parts.{is_connecting}
use Rattle.aom_clients.proofs.Same.{kept-as, state-as}
use Rattle.aom_clients.proofs.clients.Clients.disconnect.Goals as goal
use Rattle.aom_clients.proofs.Steps.{client-is}
use Rattle.aom_clients.proofs.Services.{disconnected-kept, disconnected-seen}

pub invariant_of-self : goal.invariant_of-self
invariant_of-self c =
    let q = c.self.inside.queues in
    let queue : c.remove.new.self ≡ record q { lists = map (without (1024 + c.args.client)) q.lists } =
    c.remove.ensures.removed ∙ ap (λ n. record q { lists = map (without n) q.lists }) c.connect_node.ensures in
    let mine = ap is_connecting (client-is _ _ _ _ _ _ c.self.invariant _ c.self.view_is c.args.client) ∙ c.requires.connecting in
    kept-as _ _ _ _ _ _ _ _ _ _ _ _ refl refl queue c.remove-2.ensures.removed refl refl
    (disconnected-kept _ _ _ _ _ _ c.self.invariant _ c.self.view_is c.args.client c.requires.client mine)

pub returns : goal.returns
returns c =
    let q = c.self.inside.queues in
    let queue : c.remove.new.self ≡ record q { lists = map (without (1024 + c.args.client)) q.lists } =
    c.remove.ensures.removed ∙ ap (λ n. record q { lists = map (without n) q.lists }) c.connect_node.ensures in
    let mine = ap is_connecting (client-is _ _ _ _ _ _ c.self.invariant _ c.self.view_is c.args.client) ∙ c.requires.connecting in
    state-as _ _ _ _ _ _ _ c.self.inside.sessions _ c.self.inside.sent refl refl queue refl refl
    ∙ disconnected-seen _ _ _ _ _ _ c.self.invariant _ c.self.view_is c.args.client c.requires.client mine
