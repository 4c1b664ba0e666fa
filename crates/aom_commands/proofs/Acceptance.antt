-- What is known of an accepted image makes it acceptable, and its bytes those of one.
use Rattle.std.proofs.lemmas.Bool.Decides.{nat_tests}
use Rattle.std.proofs.Common.{arith, ℕ, List}
use Rattle.aom_image.specs.Image.{Image}
use Rattle.aom_link_conditions.specs.Linked.{IsLinked}
use Rattle.aom_typing_rules.specs.Typing.{IsTyped, Typing}
use Rattle.aom_static_bounds.specs.Depths.{DepthsWithin}
use Rattle.aom_static_bounds.specs.Heights.{HeightsWithin}
use Rattle.aom_budget.specs.Budgets.{BudgetsWithin}
use Rattle.aom_commands.specs.Acceptable.{IsAcceptable, IsSerialized}
use Rattle.aom_commands.specs.Headline.{Accepts}

pub acceptable_of : {p : Image} → IsLinked p → (t : Typing) × IsTyped p t → BudgetsWithin p → DepthsWithin p → HeightsWithin p → IsAcceptable p
acceptable_of linked typed budgets depths heights = search (arith, nat_tests)

pub accepts_of : (bytes : List ℕ) (p : Image) → IsSerialized bytes p → IsLinked p → (t : Typing) × IsTyped p t → BudgetsWithin p → DepthsWithin p →
    HeightsWithin p → Accepts bytes
accepts_of bytes p serialized linked typed budgets depths heights =
    record { image = p; serialized = serialized; acceptable = acceptable_of linked typed budgets depths heights }
