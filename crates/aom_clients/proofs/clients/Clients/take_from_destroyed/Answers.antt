use Rattle.std.proofs.Common.{◌<◌, length, refl, sym, ap, ◌∙◌, subst}
use Rattle.aom_clients.specs.Parts.{if_taken, place_freed, given_up}
use Rattle.aom_clients.proofs.Same.{kept-as, state-as, written}
use Rattle.aom_clients.proofs.Services.{connect-below, message-below, served}
use Rattle.aom_clients.proofs.Steps.{cell}
use Rattle.aom_clients.proofs.clients.Clients.take_from_destroyed.Goals as goal

pub invariant_of-self : goal.invariant_of-self
invariant_of-self c =
    let v = c.self.inside.places in
    let w = c.self.inside.clients in
    let places = written v.len v.items _ c.free_place.new.places v.ok.0 c.free_place.auto.places c.deref_mut-2.ensures.value
    ∙ c.free_place.ensures ∙ ap (if_taken place_freed c.take-taken.result) c.deref_mut-2.ensures.value in
    let clients = written w.len w.items _ c.abandon_connect.new.clients w.ok.0 c.abandon_connect.auto.clients c.deref_mut.ensures.value
    ∙ c.abandon_connect.ensures ∙ ap (if_taken given_up c.take-taken.result) c.deref_mut.ensures.value in
    kept-as _ _ _ _ _ _ _ _ _ _ _ _ clients places refl c.take-taken.ensures.listed refl c.free_slot.ensures
    (served _ _ _ _ _ _ c.self.invariant _ c.self.view_is c.args.server c.requires
    _ c.take-taken.ensures.rest _ _ c.take-taken.ensures.taken c.deref.ensures.value c.take-taken.ensures.below c.take-taken.ensures.free).gone_kept

pub returns-clause-taken : goal.returns-clause-taken
returns-clause-taken c = (served _ _ _ _ _ _ c.self.invariant _ c.self.view_is c.args.server
    c.requires _ c.take-taken.ensures.rest _ _ c.take-taken.ensures.taken c.deref.ensures.value c.take-taken.ensures.below c.take-taken.ensures.free).reported

pub returns-clause-after : goal.returns-clause-after
returns-clause-after c =
    let v = c.self.inside.places in
    let w = c.self.inside.clients in
    let places = written v.len v.items _ c.free_place.new.places v.ok.0 c.free_place.auto.places c.deref_mut-2.ensures.value
    ∙ c.free_place.ensures ∙ ap (if_taken place_freed c.take-taken.result) c.deref_mut-2.ensures.value in
    let clients = written w.len w.items _ c.abandon_connect.new.clients w.ok.0 c.abandon_connect.auto.clients c.deref_mut.ensures.value
    ∙ c.abandon_connect.ensures ∙ ap (if_taken given_up c.take-taken.result) c.deref_mut.ensures.value in
    state-as _ _ _ _ _ c.take-taken.new.queues _ c.self.inside.sessions _ c.free_slot.new.sent clients places refl refl c.free_slot.ensures
    ∙ (served _ _ _ _ _ _ c.self.invariant _ c.self.view_is c.args.server c.requires
    _ c.take-taken.ensures.rest _ _ c.take-taken.ensures.taken c.deref.ensures.value c.take-taken.ensures.below c.take-taken.ensures.free).gone_seen

pub returns-clause-below : goal.returns-clause-below
returns-clause-below c = (served _ _ _ _ _ _ c.self.invariant _ c.self.view_is c.args.server
    c.requires _ c.take-taken.ensures.rest _ _ c.take-taken.ensures.taken c.deref.ensures.value c.take-taken.ensures.below c.take-taken.ensures.free).numbered

pub returns-clause-empty : goal.returns-clause-empty
returns-clause-empty c = (served _ _ _ _ _ _ c.self.invariant _ c.self.view_is c.args.server
    c.requires _ c.take-taken.ensures.rest _ _ c.take-taken.ensures.taken c.deref.ensures.value c.take-taken.ensures.below c.take-taken.ensures.free).drained

pub take-taken-requires-clause-queue : goal.take-taken-requires-clause-queue
take-taken-requires-clause-queue c = cell _ _ _ _ _ _ c.self.invariant _ c.self.view_is c.args.server c.requires

pub take-taken-requires-clause-list : goal.take-taken-requires-clause-list
take-taken-requires-clause-list c =
    subst (λ n. c.args.server < n) (sym c.self.invariant.sized.connects_long) (cell _ _ _ _ _ _ c.self.invariant _ c.self.view_is c.args.server c.requires)

pub take-taken-requires-clause-nodes : goal.take-taken-requires-clause-nodes
take-taken-requires-clause-nodes c = c.self.invariant.sized.queues_nodes

pub take-taken-requires-clause-places : goal.take-taken-requires-clause-places
take-taken-requires-clause-places c = ap length c.deref.ensures.value ∙ c.self.invariant.sized.places_long

pub abandon_connect-requires : goal.abandon_connect-requires
abandon_connect-requires c = let taken = (served _ _ _ _ _ _ c.self.invariant _ c.self.view_is c.args.server
    c.requires _ c.take-taken.ensures.rest _ _ c.take-taken.ensures.taken c.deref.ensures.value c.take-taken.ensures.below c.take-taken.ensures.free) in
    connect-below c.args.self.now _ _ _ (sym (ap length c.deref_mut.ensures.value ∙ c.self.invariant.sized.clients_long)) taken.reported taken.numbered

pub free_place-requires : goal.free_place-requires
free_place-requires c = message-below _ _ (sym (ap length c.deref_mut-2.ensures.value ∙ c.self.invariant.sized.places_long))
    (served _ _ _ _ _ _ c.self.invariant _ c.self.view_is c.args.server c.requires
    _ c.take-taken.ensures.rest _ _ c.take-taken.ensures.taken c.deref.ensures.value c.take-taken.ensures.below c.take-taken.ensures.free).numbered
