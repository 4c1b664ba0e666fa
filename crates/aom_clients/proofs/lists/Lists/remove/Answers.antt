use Rattle.std.proofs.Common.{refl, sym, subst, ◌∙◌}
use Rattle.aom_clients.specs.Lists.{Table, IsFree}
use Rattle.aom_clients.proofs.CircularLists.{without-one, without-none, free-without}
use Rattle.aom_clients.proofs.lists.Lists.remove.Goals as goal

pub returns-in-Some-clause-removed : goal.returns-in-Some-clause-removed
returns-in-Some-clause-removed c = c.unlink.ensures ∙ without-one c.args.self.now c.in-Some.list c.args.node c.in_order.ensures c.in-Some.ensures.within

pub returns-in-Some-clause-free : goal.returns-in-Some-clause-free
returns-in-Some-clause-free c = subst (λ (t : Table). IsFree t c.args.node)
    (sym (c.unlink.ensures ∙ without-one _ _ c.args.node c.in_order.ensures c.in-Some.ensures.within)) (free-without c.args.self.now c.args.node)

pub returns-in_default-clause-removed : goal.returns-in_default-clause-removed
returns-in_default-clause-removed c = sym (without-none c.args.self.now c.args.node (c.in_default.ensures.free refl))
