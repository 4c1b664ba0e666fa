-- The laws of what methods come to.
use Rattle.std.specs.Prelude.{ℕ, IsSome, []}
use Rattle.aom_image.specs.Image.{Image}
use Rattle.aom_image.specs.Views.{method_at}
use Rattle.aom_roles.specs.Tables.{at}
use Rattle.aom_typing_rules.specs.Typing.{Typing, IsTyped}
use Rattle.aom_static_bounds.specs.Shapes.{IsBelow}
use Rattle.aom_static_bounds.specs.Strongest.{IsStrongest}
use Rattle.aom_static_bounds.specs.Depths.{HasDepths, DepthsWithin}
use Rattle.aom_static_bounds.specs.Heights.{HasHeights, HeightsWithin}

-- wherever the strongest typing has a state, each typing has one that says no more
abbrev pub StrongestSaysMost : Type 0
StrongestSaysMost = (p : Image) (strongest t : Typing) → IsStrongest p strongest → IsTyped p t → (m : ℕ) → IsSome (method_at p m) → IsBelow (at [] t m) (at [] strongest m)

-- methods that have depths come to no more frames than they may
abbrev pub DepthsAreWithin : Type 0
DepthsAreWithin = (p : Image) → HasDepths p → DepthsWithin p

-- methods that have heights come to no more cleanup entries than they may
abbrev pub HeightsAreWithin : Type 0
HeightsAreWithin = (p : Image) → HasHeights p → HeightsWithin p
