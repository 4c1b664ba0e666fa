use Rattle.std.proofs.Common.{◌<◌, refl, sym, subst, ◌∙◌, arith}
use Rattle.aom_clients.proofs.Same.{kept-as, state-as}
use Rattle.aom_clients.proofs.clients.Clients.queue_message.Goals as goal
use Rattle.aom_clients.proofs.Steps.{send-cell, send-free, send-queue-free, sent}
use Rattle.aom_clients.proofs.Answering.{slot-room}

pub push_last-requires-clause-free : goal.push_last-requires-clause-free
push_last-requires-clause-free c = send-free _ _ _ _ _ _ c.self.invariant _ c.self.view_is c.args.client c.args.server c.args.place
    c.requires.client c.requires.open (slot-room _ _ _ _ _ _ c.self.invariant _ c.self.view_is c.args.client c.requires.slot) c.requires.place c.requires.free

pub push_last-requires-2-clause-list : goal.push_last-requires-2-clause-list
push_last-requires-2-clause-list c = send-cell _ _ _ _ _ _ c.self.invariant _ c.self.view_is c.args.client c.args.server c.args.place
    c.requires.client c.requires.open (slot-room _ _ _ _ _ _ c.self.invariant _ c.self.view_is c.args.client c.requires.slot) c.requires.place c.requires.free

pub push_last-requires-2-clause-free : goal.push_last-requires-2-clause-free
push_last-requires-2-clause-free c = send-queue-free _ _ _ _ _ _ c.self.invariant _ c.self.view_is c.args.client c.args.server c.args.place
    c.requires.client c.requires.open (slot-room _ _ _ _ _ _ c.self.invariant _ c.self.view_is c.args.client c.requires.slot) c.requires.place c.requires.free

pub invariant_of-self : goal.invariant_of-self
invariant_of-self c = let made = sent _ _ _ _ _ _ c.self.invariant _ c.self.view_is c.args.client c.args.server c.args.place c.requires.client c.requires.open
    (slot-room _ _ _ _ _ _ c.self.invariant _ c.self.view_is c.args.client c.requires.slot) c.requires.place c.requires.free in
    kept-as _ _ _ _ _ _ _ _ _ _ _ _ refl refl c.push_last-2.ensures refl refl c.push_last.ensures made.kept

pub returns : goal.returns
returns c = let made = sent _ _ _ _ _ _ c.self.invariant _ c.self.view_is c.args.client c.args.server c.args.place c.requires.client c.requires.open
    (slot-room _ _ _ _ _ _ c.self.invariant _ c.self.view_is c.args.client c.requires.slot) c.requires.place c.requires.free in
    state-as _ _ _ _ _ _ _ c.self.inside.sessions _ _ refl refl c.push_last-2.ensures refl c.push_last.ensures ∙ made.seen

pub push_last-requires-clause-list : goal.push_last-requires-clause-list
push_last-requires-clause-list c = omega (arith, c.requires.client, c.self.invariant.sized.sent_long)

pub push_last-requires-clause-node : goal.push_last-requires-clause-node
push_last-requires-clause-node c = subst (λ n. c.args.place < n) (sym c.self.invariant.sized.sent_nodes) c.requires.place

pub index_mut-requires : goal.index_mut-requires
index_mut-requires c = omega (arith, c.requires.place, c.self.invariant.sized.places_long, c.self.inside.places.ok.0)

pub push_last-requires-2-clause-node : goal.push_last-requires-2-clause-node
push_last-requires-2-clause-node c = omega (arith, c.requires.place, c.self.invariant.sized.queues_nodes)
