use Rattle.std.proofs.Common.{◌∙◌, ap, sym}
use Rattle.aom_natives.specs.Slots.{ids_of}
use Rattle.aom_natives.proofs.Slots.{agree-none, keeps-set, living-is, within, written}
use Rattle.aom_natives.proofs.natives.Natives.kill.Goals as goal

pub returns-clause-agree : goal.returns-clause-agree
returns-clause-agree g c = agree-none _ _ _ c.requires.agree _ _ (within _ _ c.requires.alive) c.take.ensures.after

pub returns-clause-answer : goal.returns-clause-answer
returns-clause-answer g c = c.into_ids.ensures ∙ sym (ap (ids_of (λ l. l.ids))
    (living-is c.args.self.now.slots.items c.args.n _ _ c.requires.alive c.index_mut.ensures.value (sym c.take.ensures.value ∙ c.in-Some.is)))

pub returns-clause-dead : goal.returns-clause-dead
returns-clause-dead g c = written c.args.self.now.slots.items c.args.n _ (within _ _ c.requires.alive) ∙ c.take.ensures.after

pub returns-clause-others : goal.returns-clause-others
returns-clause-others g c = keeps-set _ _ _
