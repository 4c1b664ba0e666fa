use Rattle.std.specs.Prelude.{All, filter, slice_index_or}
use Rattle.std.proofs.Common.{◌<◌, ◌+◌, [], List, length, refl, sym, ap, ◌∙◌, subst, arith}
use Rattle.std.proofs.lemmas.List.Elements.{All-filter}
use Rattle.aom_clients.specs.Lists.{list_at, with_list}
use Rattle.aom_clients.specs.declared.place.MessagePlace.{MessagePlace}
use Rattle.aom_clients.specs.declared.place.MessagePlace.TheVariants.{Free}
use Rattle.aom_clients.specs.Table.{is_queued}
use Rattle.aom_clients.specs.Parts.{CanClose, close_queued}
use Rattle.aom_clients.specs.Withdrawals.{left_each}
use Rattle.aom_clients.proofs.Same.{kept-as, state-as, written}
use Rattle.aom_clients.proofs.clients.Clients.leave.Goals as goal
use Rattle.aom_clients.proofs.Departures.{sent-below, past-below, can-close, left-kept, left-seen, freed-is}
use Rattle.aom_clients.proofs.Steps.{client-is}
use Rattle.aom_clients.proofs.Answering.{all-in}

pub withdraw_all-freed-requires-clause-within : goal.withdraw_all-freed-requires-clause-within
withdraw_all-freed-requires-clause-within c = λ m i. subst (λ (ps : List MessagePlace). m < length ps)
    (sym c.deref_mut.ensures.value) (sent-below _ _ _ _ _ _ c.self.invariant _ c.self.view_is c.args.client c.args.next c.requires.client c.requires.next m i)

pub withdraw_all-freed-requires-clause-past : goal.withdraw_all-freed-requires-clause-past
withdraw_all-freed-requires-clause-past c = λ m i. subst (λ (ps : List MessagePlace). m < length ps)
    (sym c.deref_mut.ensures.value) (past-below _ _ _ _ _ _ c.self.invariant _ c.self.view_is c.args.client c.args.next c.requires.client c.requires.next m i)

pub queue_close-requires : goal.queue_close-requires
queue_close-requires c = subst (CanClose c.client-was.result c.args.client) (sym c.withdraw_all-freed.ensures.queues)
    (can-close _ _ _ _ _ _ c.self.invariant _ c.self.view_is c.args.client c.args.next c.requires.client c.requires.next c.client-was.result
    (client-is _ _ _ _ _ _ c.self.invariant _ c.self.view_is c.args.client ∙ sym c.client-was.ensures.value))

pub invariant_of-self : goal.invariant_of-self
invariant_of-self c =
    let v = c.self.inside.places in
    let st = c.self.inside.sent in
    let places = written v.len v.items _ c.withdraw_all-freed.new.places v.ok.0 c.withdraw_all-freed.auto.places c.deref_mut.ensures.value
    ∙ c.withdraw_all-freed.ensures.places
    ∙ ap (λ ps. left_each (list_at (with_list c.args.client [] st) (64 + c.args.client)) (left_each (list_at st c.args.client) ps)) c.deref_mut.ensures.value in
    let queues = c.queue_close.ensures ∙ ap (close_queued c.client-was.result c.args.client) c.withdraw_all-freed.ensures.queues in
    kept-as _ _ _ _ _ _ _ _ _ _ _ _ refl places queues c.remove.ensures.removed refl c.withdraw_all-freed.ensures.sent (left-kept _ _ _ _ _ _ c.self.invariant _
    c.self.view_is c.args.client c.args.next c.requires.client c.requires.next c.client-was.result c.client-was.ensures.value)

pub returns-clause-freed : goal.returns-clause-freed
returns-clause-freed c = c.withdraw_all-freed.ensures.freed
    ∙ ap (λ ps. filter (λ m. is_queued (slice_index_or ps m Free)) (list_at c.self.inside.sent c.args.client)) c.deref_mut.ensures.value
    ∙ freed-is _ _ _ _ _ _ c.self.invariant _ c.self.view_is c.args.client c.args.next c.requires.client c.requires.next

pub returns-clause-after : goal.returns-clause-after
returns-clause-after c =
    let v = c.self.inside.places in
    let st = c.self.inside.sent in
    let places = written v.len v.items _ c.withdraw_all-freed.new.places v.ok.0 c.withdraw_all-freed.auto.places c.deref_mut.ensures.value
    ∙ c.withdraw_all-freed.ensures.places
    ∙ ap (λ ps. left_each (list_at (with_list c.args.client [] st) (64 + c.args.client)) (left_each (list_at st c.args.client) ps)) c.deref_mut.ensures.value in
    let queues = c.queue_close.ensures ∙ ap (close_queued c.client-was.result c.args.client) c.withdraw_all-freed.ensures.queues in
    state-as _ _ _ _ _ c.queue_close.new.queues _ c.self.inside.sessions _ c.withdraw_all-freed.new.sent refl places queues
    refl c.withdraw_all-freed.ensures.sent ∙ left-seen _ _ _ _ _ _ c.self.invariant _ c.self.view_is c.args.client c.args.next c.requires.client c.requires.next
    c.client-was.result c.client-was.ensures.value

pub returns-clause-below : goal.returns-clause-below
returns-clause-below c =
    let xs = list_at c.self.inside.sent c.args.client in
    let below : All (λ m. m < 1024) xs = all-in (λ m. m < 1024) xs (λ m i. omega (
      arith,
      sent-below _ _ _ _ _ _ c.self.invariant _ c.self.view_is c.args.client c.args.next c.requires.client c.requires.next m i,
      c.self.invariant.sized.places_long,
    )) in
    subst (All (λ m. m < 1024)) (sym c.withdraw_all-freed.ensures.freed)
    (All-filter (λ m. is_queued (slice_index_or c.deref_mut.result.now m Free)) (λ m. m < 1024) xs below)
