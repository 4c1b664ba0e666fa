-- A reached place comes to its own and to the most of what it calls; another place to nothing.
use Rattle.std.proofs.Common.{refl, sym, ◌∙◌}
use Rattle.aom_budget.proofs.FieldState.{depth_found, height_found}
use Rattle.aom_budget.proofs.finder.DepthSearch.of_place.Goals as goal

pub instr-instr-requires : goal.instr-instr-requires
instr-instr-requires c = rw (c.requires.strongest.typed.each c.args.place c.in-Some.shape (sym c.view.ensures ∙ c.in-Some.is)).stands refl

pub returns-in-Some-clause-depth : goal.returns-in-Some-clause-depth
returns-in-Some-clause-depth c = depth_found _ _ _ _ _ _ c.facts.ensures.linked c.requires.strongest
    (sym c.view.ensures ∙ c.in-Some.is) c.instr-instr.ensures _ _ c.requires.filled.deep c.depth_at.ensures

pub returns-in-Some-clause-height : goal.returns-in-Some-clause-height
returns-in-Some-clause-height c = height_found _ _ _ _ _ _ c.facts.ensures.linked c.requires.strongest
    (sym c.view.ensures ∙ c.in-Some.is) c.instr-instr.ensures _ _ c.requires.filled.high c.height_at.ensures
