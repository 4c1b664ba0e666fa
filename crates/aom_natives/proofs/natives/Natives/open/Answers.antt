use Rattle.std.proofs.Common.{◌≡◌}
use Rattle.aom_natives.proofs.Slots.{answer-after, called, living-agrees}
use Rattle.aom_natives.proofs.natives.Natives.open.Goals as goal

pub open-requires : goal.open-requires
open-requires g c =
    record { agree = living-agrees c.args.self.now.slots.items c.args.n _ _ c.requires.alive c.index_mut.ensures.value c.in-Some.is _ _ c.requires.agree }

pub returns : goal.returns
returns g c =
    let slots = c.args.self.now.slots.items in
    let agrees = called slots c.args.n _ _ c.requires.alive c.index_mut.ensures.value c.in-Some.is _ _ c.requires.agree c.open.new.self c.open.ensures.agree
    (λ old new. new ≡ old) c.open.ensures.ids in
    let answers = answer-after slots c.args.n _ _ c.requires.alive c.index_mut.ensures.value c.in-Some.is (λ l answer. (goal.Native-dyn g
    (l.native.vtable, l.native.value)).open_may l.native.value c.args.id answer) c.open.result (record { sfits = c.open.type_inv }) c.open.ensures.answer in
    assumption (agrees, answers)
