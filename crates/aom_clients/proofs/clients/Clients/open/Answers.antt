use Rattle.std.proofs.Common.{◌≡◌, ◌+◌, refl, ap, ◌∙◌}
use Rattle.std.specs.Prelude.{map}
use Rattle.aom_clients.specs.Lists.{without}
use Rattle.aom_clients.specs.Parts.{is_connecting}
use Rattle.aom_clients.proofs.Same.{kept-as, state-as}
use Rattle.aom_clients.proofs.clients.Clients.open.Goals as goal
use Rattle.aom_clients.proofs.Steps.{client-is}
use Rattle.aom_clients.proofs.Services.{session-cell, session-free, opened-kept, opened-seen}

pub push_last-requires-clause-list : goal.push_last-requires-clause-list
push_last-requires-clause-list c =
    let was = client-is _ _ _ _ _ _ c.self.invariant _ c.self.view_is c.args.client ∙ c.requires.connecting in
    session-cell _ _ _ _ _ _ c.self.invariant _ c.self.view_is c.args.client c.requires.client (ap is_connecting was) c.args.server c.args.session c.args.slots was

pub push_last-requires-clause-free : goal.push_last-requires-clause-free
push_last-requires-clause-free c =
    let was = client-is _ _ _ _ _ _ c.self.invariant _ c.self.view_is c.args.client ∙ c.requires.connecting in
    session-free _ _ _ _ _ _ c.self.invariant _ c.self.view_is c.args.client c.requires.client (ap is_connecting was) c.args.server c.args.session c.args.slots was

pub invariant_of-self : goal.invariant_of-self
invariant_of-self c =
    let q = c.self.inside.queues in
    let queue : c.remove.new.self ≡ record q { lists = map (without (1024 + c.args.client)) q.lists } =
    c.remove.ensures.removed ∙ ap (λ n. record q { lists = map (without n) q.lists }) c.connect_node.ensures in
    let was = client-is _ _ _ _ _ _ c.self.invariant _ c.self.view_is c.args.client ∙ c.requires.connecting in
    kept-as _ _ _ _ _ _ _ _ _ _ _ _ refl refl queue c.remove-2.ensures.removed c.push_last.ensures refl (opened-kept _ _ _ _ _ _ c.self.invariant _
    c.self.view_is c.args.client c.requires.client (ap is_connecting was) c.args.server c.args.session c.args.slots was)

pub returns : goal.returns
returns c =
    let q = c.self.inside.queues in
    let queue : c.remove.new.self ≡ record q { lists = map (without (1024 + c.args.client)) q.lists } =
    c.remove.ensures.removed ∙ ap (λ n. record q { lists = map (without n) q.lists }) c.connect_node.ensures in
    let was = client-is _ _ _ _ _ _ c.self.invariant _ c.self.view_is c.args.client ∙ c.requires.connecting in
    state-as _ _ _ _ _ _ _ _ _ c.self.inside.sent refl refl queue c.push_last.ensures refl ∙ opened-seen _ _ _ _ _ _ c.self.invariant _ c.self.view_is
    c.args.client c.requires.client (ap is_connecting was) c.args.server c.args.session c.args.slots was
