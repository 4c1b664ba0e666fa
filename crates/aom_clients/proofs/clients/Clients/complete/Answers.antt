use Rattle.aom_clients.proofs.Same.{kept-as, state-as}
use Rattle.aom_clients.proofs.clients.Clients.complete.Goals as goal
use Rattle.aom_clients.proofs.Services.{complete-kept, complete-seen}
use Rattle.std.proofs.Common.{◌<◌, length, refl, sym, ap, ◌∙◌, arith}
use Rattle.std.proofs.lemmas.List.{get_or_read}
use Rattle.aom_clients.specs.declared.place.MessagePlace.TheVariants.{Free}
use Rattle.aom_clients.specs.Table.{completion}
use Rattle.aom_clients.proofs.Answering.{completed-below}

pub invariant_of-self : goal.invariant_of-self
invariant_of-self c = kept-as _ _ _ _ _ _ _ _ _ _ _ _ refl refl refl refl refl c.remove.ensures.removed
    (complete-kept _ _ _ _ _ _ c.self.invariant _ c.self.view_is c.args.place c.requires.place c.requires.taken)

pub returns-clause-after : goal.returns-clause-after
returns-clause-after c = state-as _ _ _ _ _ c.self.inside.queues _ c.self.inside.sessions _ _ refl refl refl refl c.remove.ensures.removed
    ∙ complete-seen _ _ _ _ _ _ c.self.invariant _ c.self.view_is c.args.place c.requires.place c.requires.taken

pub returns-clause-below : goal.returns-clause-below
returns-clause-below c =
    let pl = c.self.inside.places.items in
    let small : c.args.place < length pl = omega (arith, c.requires.place, c.self.invariant.sized.places_long) in
    let was = get_or_read pl c.args.place c.index-was.result.now small c.index-was.ensures Free in
    completed-below pl c.self.inside.sent c.self.invariant.out c.args.place c.unwrap.result (sym c.unwrap.ensures ∙ c.completion.ensures ∙ ap completion was)
