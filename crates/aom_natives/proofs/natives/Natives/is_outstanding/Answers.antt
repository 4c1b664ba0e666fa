use Rattle.std.proofs.Common.{sym, subst, ◌∙◌}
use Rattle.aom_natives.specs.Owed.{IsOwed, IsNew}
use Rattle.aom_natives.proofs.Ids.{found-owed, unfound-new}
use Rattle.aom_natives.proofs.natives.Natives.is_outstanding.Goals as goal

pub returns-clause-owed : goal.returns-clause-owed
returns-clause-owed g c =
    λ yes. subst (λ ids. IsOwed ids c.args.id) c.outstanding.ensures (found-owed c.outstanding.result.now c.args.id (sym c.is_in.ensures ∙ yes))

pub returns-clause-fresh : goal.returns-clause-fresh
returns-clause-fresh g c = λ no. subst (λ ids. IsNew ids c.args.id) c.outstanding.ensures (unfound-new c.outstanding.result.now c.args.id (sym c.is_in.ensures ∙ no))
