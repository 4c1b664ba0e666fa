-- The strongest typing is a typing, its prices pay for what is declared, and the tables keep frames within 256 and entries within 1,024.
use Rattle.std.proofs.Common.{◌∙◌, sym, subst}
use Rattle.aom_image.specs.Image.{Image}
use Rattle.aom_typing_rules.specs.Typing.{Typing}
use Rattle.aom_static_bounds.specs.Strongest.{IsStrongest}
use Rattle.aom_static_bounds.specs.Depths.{DepthsWithin}
use Rattle.aom_static_bounds.specs.Heights.{HeightsWithin}
use Rattle.aom_budget.proofs.StaticBoundsLemmas.{all_high, all_within}
use Rattle.aom_static_bounds.specs.Dispatches.{IsAffordable}
use Rattle.aom_static_bounds.specs.Prices.{Prices}
use Rattle.aom_image.specs.WellFormed.{WellFormed}
use Rattle.aom_link_conditions.specs.Linked.{IsLinked}
use Rattle.aom_budget.specs.Budgets.{CostsWithin}
use Rattle.aom_budget.proofs.Budgeting.{affordable}
use Rattle.aom_budget.proofs.accepted.Accepted.facts.Goals as goal

pub returns-clause-affordable : goal.returns-clause-affordable
returns-clause-affordable c =
    let linked : IsLinked c.self.inside.checked = subst IsLinked (c.linked-linked.ensures ∙ sym c.self.view_is) c.facts.ensures.linked in
    let formed : WellFormed c.self.inside.checked =
    subst WellFormed (c.image.ensures ∙ (c.linked-linked.ensures ∙ sym c.self.view_is)) c.methods-formed.ensures.well_formed in
    subst (λ (p : Image). (t : Typing) × IsStrongest p t × (prices : Prices) × IsAffordable p t prices × CostsWithin p prices) c.self.view_is
    (affordable _ _ formed linked c.self.invariant.0 c.self.invariant.3.priced)

pub returns-clause-within : goal.returns-clause-within
returns-clause-within c = subst DepthsWithin c.self.view_is (all_within _ c.self.invariant.1)

pub returns-clause-high : goal.returns-clause-high
returns-clause-high c = subst HeightsWithin c.self.view_is (all_high _ c.self.invariant.2)
