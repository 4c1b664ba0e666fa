use Rattle.aom_natives.specs.Owed.{IsOwed, TakesOut}
use Rattle.aom_natives.specs.Slots.{ids_of}
use Rattle.aom_natives.proofs.Slots.{called, from-slot, living-agrees}
use Rattle.aom_natives.proofs.natives.Natives.cancel.Goals as goal

pub cancel-requires-clause-agree : goal.cancel-requires-clause-agree
cancel-requires-clause-agree g c =
    living-agrees c.args.self.now.slots.items c.args.n _ _ c.requires.alive c.index_mut.ensures.value c.in-Some.is _ _ c.requires.agree

pub cancel-requires-clause-owed : goal.cancel-requires-clause-owed
cancel-requires-clause-owed g c = from-slot c.args.self.now.slots.items c.args.n _ _ c.requires.alive c.index_mut.ensures.value c.in-Some.is
    (λ o. IsOwed (ids_of (λ l. l.ids) o) c.args.id) c.requires.owed

pub returns : goal.returns
returns g c = assumption (called c.args.self.now.slots.items c.args.n _ _ c.requires.alive c.index_mut.ensures.value
    c.in-Some.is _ _ c.requires.agree c.cancel.new.self c.cancel.ensures.agree (λ old new. TakesOut c.args.id old new) c.cancel.ensures.ids)
