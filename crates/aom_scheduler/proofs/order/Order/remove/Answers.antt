use Rattle.std.proofs.Common.{◌<◌, None, sym, subst, ap, ◌∙◌, arith}
use Rattle.std.specs.Prelude.{IsSome, remove, slice_set}
use Rattle.std.proofs.lemmas.Bool.{false≢true}
use Rattle.std.proofs.lemmas.List.{length-set}
use Rattle.std.specs.VecDeque.{deque_len}
use Rattle.aom_scheduler.specs.Order.{without}
use Rattle.aom_scheduler.specs.Keys.{IsKeyed}
use Rattle.aom_scheduler.proofs.Places.{same_priority_list, id_of}
use Rattle.aom_scheduler.proofs.Keys.{removal-from}
use Rattle.aom_scheduler.proofs.Timing.{on_some}
use Rattle.aom_scheduler.proofs.order.Order.remove.Goals as goal

pub index_mut-requires : goal.index_mut-requires
index_mut-requires c =
    let made = removal-from c.args.id c.self.view_is c.place.ensures c.in-Some.is c.self.invariant.0 in
    omega (arith, made.small, c.number.ensures.value, c.self.inside.keys.ok.0)

pub invariant_of-self : goal.invariant_of-self
invariant_of-self c =
    let made = removal-from c.args.id c.self.view_is c.place.ensures c.in-Some.is c.self.invariant.0 in
    let within : c.in-Some.at < deque_len c.self.inside.entries = omega (arith, made.within, c.self.inside.entries.ok.0) in
    let items = on_some c.remove.result (c.remove.ensures.variant.1 within) c.remove.ensures.items in
    let keys = c.self.inside.keys.items in
    let next = c.self.inside.next in
    let keyed = subst (λ k. IsKeyed (remove c.self.inside.entries.items c.in-Some.at) (slice_set keys k None) next) (sym c.number.ensures.value) made.keyed in (
      subst (λ xs. IsKeyed xs (slice_set keys c.number.result None) next) (sym items) keyed,
      omega (arith, length-set keys c.number.result None, c.self.invariant.1),
      omega (arith, length-set keys c.number.result None, c.self.invariant.2, c.remove.ensures.capacity),
    )

pub returns-in-Some : goal.returns-in-Some
returns-in-Some c =
    let made = removal-from c.args.id c.self.view_is c.place.ensures c.in-Some.is c.self.invariant.0 in
    let within : c.in-Some.at < deque_len c.self.inside.entries = omega (arith, made.within, c.self.inside.entries.ok.0) in
    let items = on_some c.remove.result (c.remove.ensures.variant.1 within) c.remove.ensures.items in
    same_priority_list _ _ _ _ (items ∙ made.is ∙ ap (λ r. without id_of c.args.id r.entries) c.self.view_is)
    (length-set c.self.inside.keys.items c.number.result None ∙ ap (λ r. r.limit) c.self.view_is)

pub returns-in_default : goal.returns-in_default
returns-in_default c = absurd (false≢true (subst IsSome (sym c.place.ensures ∙ c.in_default.is) c.requires))
