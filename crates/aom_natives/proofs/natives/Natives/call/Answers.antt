use Rattle.std.proofs.Common.{◌≡◌}
use Rattle.aom_natives.proofs.Slots.{answer-to, called, living-agrees}
use Rattle.aom_natives.proofs.natives.Natives.call.Goals as goal

pub call-requires : goal.call-requires
call-requires g c =
    record { agree = living-agrees c.args.self.now.slots.items c.args.n _ _ c.requires.alive c.index_mut.ensures.value c.in-Some.is _ _ c.requires.agree }

pub returns : goal.returns
returns g c =
    let slots = c.args.self.now.slots.items in
    let agrees = called slots c.args.n _ _ c.requires.alive c.index_mut.ensures.value c.in-Some.is _ _ c.requires.agree c.call.new.self c.call.ensures.agree
    (λ old new. new ≡ old) c.call.ensures.ids in
    let answers = answer-to slots c.args.n _ _ c.requires.alive c.index_mut.ensures.value c.in-Some.is
    (λ l. (goal.Native-dyn g (l.native.vtable, l.native.value)).call_may l.native.value c.args.id) _ _ c.call.result c.ranges.function c.ranges.word
    (record { sfits = c.call.type_inv }) c.call.ensures.answer in
    assumption (agrees, answers)
