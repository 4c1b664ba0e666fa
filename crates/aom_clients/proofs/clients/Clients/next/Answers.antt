use Rattle.std.proofs.Common.{◌<◌, length, refl, sym, ap, ◌∙◌, subst}
use Rattle.aom_clients.specs.Parts.{if_taken, held_by}
use Rattle.aom_clients.proofs.Same.{kept-as, state-as, written}
use Rattle.aom_clients.proofs.Services.{message-below, served}
use Rattle.aom_clients.proofs.Steps.{cell}
use Rattle.aom_clients.proofs.clients.Clients.next.Goals as goal

pub returns-clause-taken : goal.returns-clause-taken
returns-clause-taken c = (served _ _ _ _ _ _ c.self.invariant _ c.self.view_is c.args.server
    c.requires _ c.take-taken.ensures.rest _ _ c.take-taken.ensures.taken c.deref.ensures.value c.take-taken.ensures.below c.take-taken.ensures.free).reported

pub returns-clause-below : goal.returns-clause-below
returns-clause-below c = (served _ _ _ _ _ _ c.self.invariant _ c.self.view_is c.args.server
    c.requires _ c.take-taken.ensures.rest _ _ c.take-taken.ensures.taken c.deref.ensures.value c.take-taken.ensures.below c.take-taken.ensures.free).numbered

pub invariant_of-self : goal.invariant_of-self
invariant_of-self c =
    let v = c.self.inside.places in
    let places = written v.len v.items _ c.mark_held.new.places v.ok.0 c.mark_held.auto.places c.deref_mut.ensures.value ∙ c.mark_held.ensures
    ∙ ap (if_taken held_by c.take-taken.result) c.deref_mut.ensures.value in
    kept-as _ _ _ _ _ _ _ _ _ _ _ _ refl places refl c.take-taken.ensures.listed refl refl
    (served _ _ _ _ _ _ c.self.invariant _ c.self.view_is c.args.server
    c.requires _ c.take-taken.ensures.rest _ _ c.take-taken.ensures.taken c.deref.ensures.value c.take-taken.ensures.below c.take-taken.ensures.free).kept

pub returns-clause-after : goal.returns-clause-after
returns-clause-after c =
    let v = c.self.inside.places in
    let places = written v.len v.items _ c.mark_held.new.places v.ok.0 c.mark_held.auto.places c.deref_mut.ensures.value ∙ c.mark_held.ensures
    ∙ ap (if_taken held_by c.take-taken.result) c.deref_mut.ensures.value in
    state-as _ _ _ _ _ c.take-taken.new.queues _ c.self.inside.sessions _ c.self.inside.sent refl places refl refl refl
    ∙ (served _ _ _ _ _ _ c.self.invariant _ c.self.view_is c.args.server
    c.requires _ c.take-taken.ensures.rest _ _ c.take-taken.ensures.taken c.deref.ensures.value c.take-taken.ensures.below c.take-taken.ensures.free).seen

pub take-taken-requires-clause-queue : goal.take-taken-requires-clause-queue
take-taken-requires-clause-queue c = cell _ _ _ _ _ _ c.self.invariant _ c.self.view_is c.args.server c.requires

pub take-taken-requires-clause-list : goal.take-taken-requires-clause-list
take-taken-requires-clause-list c =
    subst (λ n. c.args.server < n) (sym c.self.invariant.sized.connects_long) (cell _ _ _ _ _ _ c.self.invariant _ c.self.view_is c.args.server c.requires)

pub take-taken-requires-clause-nodes : goal.take-taken-requires-clause-nodes
take-taken-requires-clause-nodes c = c.self.invariant.sized.queues_nodes

pub take-taken-requires-clause-places : goal.take-taken-requires-clause-places
take-taken-requires-clause-places c = ap length c.deref.ensures.value ∙ c.self.invariant.sized.places_long

pub mark_held-requires : goal.mark_held-requires
mark_held-requires c = message-below _ _ (sym (ap length c.deref_mut.ensures.value ∙ c.self.invariant.sized.places_long))
    (served _ _ _ _ _ _ c.self.invariant _ c.self.view_is c.args.server c.requires
    _ c.take-taken.ensures.rest _ _ c.take-taken.ensures.taken c.deref.ensures.value c.take-taken.ensures.below c.take-taken.ensures.free).numbered
