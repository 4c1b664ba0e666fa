use Rattle.std.proofs.Common.{◌≡◌, ◌+◌, refl, ap, ◌∙◌}
use Rattle.std.specs.Prelude.{map}
use Rattle.aom_clients.specs.Lists.{without}
use Rattle.aom_clients.proofs.Same.{kept-as, state-as}
use Rattle.aom_clients.proofs.clients.Clients.part.Goals as goal
use Rattle.aom_clients.proofs.Services.{parted-kept, parted-seen}

pub invariant_of-self : goal.invariant_of-self
invariant_of-self c =
    let q = c.self.inside.queues in
    let queue : c.remove.new.self ≡ record q { lists = map (without (1088 + c.args.client)) q.lists } =
    c.remove.ensures.removed ∙ ap (λ n. record q { lists = map (without n) q.lists }) c.close_node.ensures in
    kept-as _ _ _ _ _ _ _ _ _ _ _ _ refl refl queue refl c.remove-2.ensures.removed refl
    (parted-kept _ _ _ _ _ _ c.self.invariant _ c.self.view_is c.args.client c.args.next c.requires.client c.requires.leaving c.requires.next)

pub returns : goal.returns
returns c =
    let q = c.self.inside.queues in
    let queue : c.remove.new.self ≡ record q { lists = map (without (1088 + c.args.client)) q.lists } =
    c.remove.ensures.removed ∙ ap (λ n. record q { lists = map (without n) q.lists }) c.close_node.ensures in
    state-as _ _ _ _ _ _ _ _ _ c.self.inside.sent refl refl queue c.remove-2.ensures.removed refl
    ∙ parted-seen _ _ _ _ _ _ c.self.invariant _ c.self.view_is c.args.client c.args.next c.requires.client c.requires.leaving c.requires.next
