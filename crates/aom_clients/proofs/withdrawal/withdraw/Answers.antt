use Rattle.std.proofs.Common.{◌≡◌, ◌++◌, [], length, refl, sym, ap, ◌∙◌, arith}
use Rattle.std.proofs.lemmas.List.{length-set, append-nil}
use Rattle.aom_clients.specs.Lists.{list_at}
use Rattle.aom_clients.specs.Table.{closed_place}
use Rattle.aom_clients.specs.Withdrawals.{waiting_each, left_each}
use Rattle.aom_clients.proofs.Leaving.{place, waiting-is}
use Rattle.aom_clients.proofs.Draining.{drained, first-below, tail-in, places-drained, queues-drained, freed-drained, room-drained, drained-all}
use Rattle.aom_clients.proofs.withdrawal.withdraw.Goals as goal

pub leave-was-requires : goal.leave-was-requires
leave-was-requires c = first-below c.loop-place.sent c.args.list _ _ c.in-Some.ensures.first c.loop-place.invariant.within

pub loop-place-preserved : goal.loop-place-preserved
loop-place-preserved c =
    let t = c.loop-place.sent in
    let u = c.take_first.new.self in
    let m = c.in-Some.place in
    let pl = c.loop-place.places in
    let left = c.leave-was.ensures.left in
    let d = drained t u c.args.list m c.loop-place.invariant.list c.in-Some.ensures.first c.take_first.ensures.rest in
    record {
      list = d.listed;
      within = λ n i. omega (arith, c.loop-place.invariant.within n (tail-in t u c.args.list m d n i), ap length left, length-set pl m (closed_place (place pl m)));
      room = room-drained t u c.args.list m d c.leave-was.result c.loop-place.freed.items c.note.new.freed.items c.note.ensures c.loop-place.invariant.room;
      sent = d.emptied ∙ c.loop-place.invariant.sent;
      queues = queues-drained t u c.args.list m d c.loop-place.queues c.remove.new.self c.remove.ensures.removed ∙ c.loop-place.invariant.queues;
      places = ap (left_each (list_at u c.args.list)) left ∙ places-drained t u c.args.list m d pl (closed_place (place pl m)) refl ∙ c.loop-place.invariant.places;
      freed = ap (λ ps. c.note.new.freed.items ++ waiting_each (list_at u c.args.list) ps) left
          ∙ freed-drained t u c.args.list m d pl c.leave-was.result (closed_place (place pl m)) c.loop-place.freed.items
          c.note.new.freed.items c.leave-was.ensures.was (ap closed_place (sym c.leave-was.ensures.was)) c.note.ensures ∙ c.loop-place.invariant.freed;
    }

pub returns-clause-freed : goal.returns-clause-freed
returns-clause-freed c =
    let none : list_at c.loop-place.sent c.args.list ≡ [] = drained-all c.loop-place.sent c.args.list (sym c.in_default.ensures.first) in
    sym (append-nil c.loop-place.freed.items) ∙ ap (λ xs. c.loop-place.freed.items ++ waiting_each xs c.loop-place.places) (sym none) ∙ c.loop-place.invariant.freed
    ∙ waiting-is (list_at c.args.sent.now c.args.list) c.args.places.now c.args.places.now (c.in_order.ensures.once c.args.list) (λ n i. refl)
