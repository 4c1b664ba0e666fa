use Rattle.std.proofs.Common.{◌≡◌}
use Rattle.aom_natives.specs.Owed.{IsNew}
use Rattle.aom_natives.specs.Slots.{ids_of}
use Rattle.aom_natives.proofs.Slots.{called, from-slot, living-agrees}
use Rattle.aom_natives.proofs.natives.Natives.close.Goals as goal

pub close-requires-clause-agree : goal.close-requires-clause-agree
close-requires-clause-agree g c = living-agrees c.args.self.now.slots.items c.args.n _ _ c.requires.alive c.index_mut.ensures.value c.in-Some.is _ _ c.requires.agree

pub close-requires-clause-fresh : goal.close-requires-clause-fresh
close-requires-clause-fresh g c = from-slot c.args.self.now.slots.items c.args.n _ _ c.requires.alive c.index_mut.ensures.value c.in-Some.is
    (λ o. IsNew (ids_of (λ l. l.ids) o) c.args.id) c.requires.fresh

pub returns : goal.returns
returns g c = assumption (called c.args.self.now.slots.items c.args.n _ _ c.requires.alive
    c.index_mut.ensures.value c.in-Some.is _ _ c.requires.agree c.close.new.self c.close.ensures.agree (λ old new. new ≡ old) c.close.ensures.ids)
