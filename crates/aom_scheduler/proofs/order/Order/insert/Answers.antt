use Rattle.std.proofs.Common.{◌+◌, sym, subst, ap, ◌∙◌, arith, Some}
use Rattle.std.specs.Prelude.{insert, slice_set}
use Rattle.std.proofs.lemmas.List.{length-set}
use Rattle.std.proofs.lemmas.Result.{IfOk-at_ok}
use Rattle.aom_scheduler.specs.Keys.{IsKeyed}
use Rattle.aom_scheduler.specs.PriorityList.{before}
use Rattle.aom_scheduler.specs.Order.{placed}
use Rattle.aom_scheduler.proofs.Places.{same_priority_list}
use Rattle.aom_scheduler.proofs.Keys.{insertion-from}
use Rattle.aom_scheduler.proofs.Timing.{ok_by_room}
use Rattle.aom_scheduler.proofs.order.Order.insert.Goals as goal

pub unwrap-requires : goal.unwrap-requires
unwrap-requires c =
    let renewed = c.next_turn-turn.ensures in
    let made = insertion-from c.next_turn-turn.result c.place_for-at.result c.args.entry c.self.view_is renewed.length renewed.keyed c.requires.below
    c.requires.unlisted c.place_for-at.ensures.bound c.place_for-at.ensures.point in
    ok_by_room c.insert.result _ _ c.insert.ensures.full (omega (arith, made.room, renewed.length, c.self.invariant.2, c.self.inside.entries.ok.0))

pub invariant_of-self : goal.invariant_of-self
invariant_of-self c =
    let renewed = c.next_turn-turn.ensures in
    let made = insertion-from c.next_turn-turn.result c.place_for-at.result c.args.entry c.self.view_is renewed.length renewed.keyed c.requires.below
    c.requires.unlisted c.place_for-at.ensures.bound c.place_for-at.ensures.point in
    let items = IfOk-at_ok _ c.unwrap.ensures c.insert.ensures.items in
    let keys = c.next_turn-turn.new.keys.items in
    let slot = c.number-slot.result in
    let then = c.next_turn-turn.result + 1 in
    let there = insert c.self.inside.entries.items c.place_for-at.result c.args.entry in
    let keyed = subst (λ k. IsKeyed there (slice_set keys k (Some c.of.result)) then) (sym c.number-slot.ensures.value)
    (subst (λ key. IsKeyed there (slice_set keys c.args.entry.id (Some key)) then) (sym c.of.ensures) made.keyed) in (
      subst (λ xs. IsKeyed xs (slice_set keys slot (Some c.of.result)) then) (sym items) keyed,
      omega (arith, length-set keys slot (Some c.of.result), renewed.length, c.self.invariant.1),
      omega (arith, length-set keys slot (Some c.of.result), renewed.length, c.self.invariant.2, c.insert.ensures.capacity),
    )

pub returns : goal.returns
returns c =
    let renewed = c.next_turn-turn.ensures in
    let made = insertion-from c.next_turn-turn.result c.place_for-at.result c.args.entry c.self.view_is renewed.length renewed.keyed c.requires.below
    c.requires.unlisted c.place_for-at.ensures.bound c.place_for-at.ensures.point in
    let items = IfOk-at_ok _ c.unwrap.ensures c.insert.ensures.items in
    same_priority_list _ _ _ _ (items ∙ made.is ∙ ap (λ r. placed before c.args.entry r.entries) c.self.view_is)
    (length-set c.next_turn-turn.new.keys.items c.number-slot.result (Some c.of.result) ∙ renewed.length ∙ ap (λ r. r.limit) c.self.view_is)
