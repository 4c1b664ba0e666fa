-- What the tests of the tables say, the depths first.
use Rattle.std.proofs.Common.{◌∙◌, sym}
use Rattle.aom_link_conditions.specs.Linked.{IsLinked}
use Rattle.aom_budget.proofs.StaticBoundsLemmas.{all_within}
use Rattle.aom_budget.proofs.Limits.{are_depths, are_heights, too_deep, too_high, keeps, exceeds}
use Rattle.aom_budget.proofs.extents.StackDepths.keep.Goals as goal

pub returns-then-not-keeps_to-clause-err : goal.returns-then-not-keeps_to-clause-err
returns-then-not-keeps_to-clause-err c =
    (c.requires.budgets, too_deep _ _ c.requires.filled.deep (exceeds 256 _ (sym c.keeps_to.ensures ∙ c.if-not-keeps_to.true)))

pub returns-then-not-keeps_to-2-clause-err : goal.returns-then-not-keeps_to-2-clause-err
returns-then-not-keeps_to-2-clause-err c =
    let linked : IsLinked c.args.checked.now = rw c.linked.ensures at c.facts.ensures.linked in
    let depths = are_depths _ _ linked c.requires.filled.deep (keeps 256 _ (sym c.keeps_to.ensures ∙ c.if-not-keeps_to.false)) in
    let within = all_within c.args.checked.now (record { depths = _; are = depths }) in
    (c.requires.budgets, within, too_high _ _ c.requires.filled.high (exceeds 1024 _ (sym c.keeps_to-2.ensures ∙ c.if-not-keeps_to-2.true)))

pub returns-clause-depths : goal.returns-clause-depths
returns-clause-depths c =
    let linked : IsLinked c.args.checked.now = rw c.linked.ensures at c.facts.ensures.linked in
    record { depths = _; are = are_depths _ _ linked c.requires.filled.deep (keeps 256 _ (sym c.keeps_to.ensures ∙ c.if-not-keeps_to.false)) }

pub returns-clause-heights : goal.returns-clause-heights
returns-clause-heights c =
    let linked : IsLinked c.args.checked.now = rw c.linked.ensures at c.facts.ensures.linked in
    record { heights = _; are = are_heights _ c.typed.ensures.0 _ linked c.typed.ensures.1 c.requires.filled.high (keeps 1024 _ (sym c.keeps_to-2.ensures ∙ c.if-not-keeps_to-2.false)) }
