use Rattle.std.proofs.Common.{◌∙◌, ap, length, refl, arith}
use Rattle.std.proofs.lemmas.List.{length-set}
use Rattle.aom_clients.specs.Lists.{list_at}
use Rattle.aom_clients.specs.Table.{closed_place}
use Rattle.aom_clients.specs.Withdrawals.{left_each}
use Rattle.aom_clients.proofs.Leaving.{place}
use Rattle.aom_clients.proofs.Draining.{drained, first-below, tail-in, places-drained}
use Rattle.aom_clients.proofs.withdrawal.discard.Goals as goal

pub leave-requires : goal.leave-requires
leave-requires c = first-below c.loop-place.sent c.args.list _ _ c.in-Some.ensures.first c.loop-place.invariant.within

pub loop-place-preserved : goal.loop-place-preserved
loop-place-preserved c =
    let u = c.take_first.new.self in
    let d = drained c.loop-place.sent u c.args.list c.in-Some.place c.loop-place.invariant.list c.in-Some.ensures.first c.take_first.ensures.rest in
    record {
      list = d.listed;
      within = λ m i. omega (
        arith,
        c.loop-place.invariant.within m (tail-in _ _ _ _ d m i),
        ap length c.leave.ensures.left,
        length-set c.loop-place.places c.in-Some.place (closed_place (place c.loop-place.places c.in-Some.place)),
      );
      sent = d.emptied ∙ c.loop-place.invariant.sent;
      places = ap (left_each (list_at u c.args.list)) c.leave.ensures.left
          ∙ places-drained _ _ _ _ d c.loop-place.places (closed_place (place c.loop-place.places c.in-Some.place)) refl ∙ c.loop-place.invariant.places;
    }
