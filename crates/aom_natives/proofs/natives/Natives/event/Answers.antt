use Rattle.std.proofs.Common.{◌≡◌}
use Rattle.aom_natives.proofs.Slots.{called, living-agrees}
use Rattle.aom_natives.proofs.natives.Natives.event.Goals as goal

pub event-requires : goal.event-requires
event-requires g c =
    record { agree = living-agrees c.args.self.now.slots.items c.args.n _ _ c.requires.alive c.index_mut.ensures.value c.in-Some.is _ _ c.requires.agree }

pub returns : goal.returns
returns g c = assumption (called c.args.self.now.slots.items c.args.n _ _ c.requires.alive
    c.index_mut.ensures.value c.in-Some.is _ _ c.requires.agree c.event.new.self c.event.ensures.agree (λ old new. new ≡ old) c.event.ensures.ids)
