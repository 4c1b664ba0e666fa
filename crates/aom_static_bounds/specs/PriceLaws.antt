-- The laws of prices.
use Rattle.std.specs.Prelude.{ℕ}
use Rattle.aom_image.specs.Image.{Image}
use Rattle.aom_image.specs.WellFormed.{WellFormed}
use Rattle.aom_link_conditions.specs.Linked.{IsLinked}
use Rattle.aom_typing_rules.specs.Typing.{Typing, IsTyped}
use Rattle.aom_static_bounds.specs.Prices.{Prices, IsPriced}
use Rattle.aom_static_bounds.specs.Costs.{ArePrices}
use Rattle.aom_static_bounds.specs.Layers.{ArePricesUpTo, HasPrices, PaysBefore, SayTheSame}
use Rattle.aom_static_bounds.specs.Sweeping.{LoopExits, IsSwept, IsSweptUpTo}

-- what one pass finds pays for each move
abbrev pub SweptPays : Type 0
SweptPays = (p : Image) (t : Typing) (c : Prices) (a : LoopExits) → WellFormed p → IsLinked p → IsTyped p t → IsSwept p t c a → IsPriced p t c

-- what one pass finds is the price: the most over the paths
abbrev pub SweptIsPrice : Type 0
SweptIsPrice = (p : Image) (t : Typing) (c : Prices) (a : LoopExits) → WellFormed p → IsLinked p → IsTyped p t → IsSwept p t c a → ArePrices p t c

-- there is such a table, where methods pay for those before them alone
abbrev pub PricesAreFound : Type 0
PricesAreFound = (p : Image) (t : Typing) → WellFormed p → IsLinked p → IsTyped p t → PaysBefore p t → HasPrices p t

-- and no other
abbrev pub PricesAreOne : Type 0
PricesAreOne = (p : Image) (t : Typing) (c d : Prices) → WellFormed p → IsLinked p → PaysBefore p t → ArePrices p t c → ArePrices p t d → SayTheSame p c d

-- what one pass finds with each sum kept up to a limit is that table up to the limit
abbrev pub SweptUpToIsPrice : Type 0
SweptUpToIsPrice = (limit : ℕ) (p : Image) (t : Typing) (c : Prices) (a : LoopExits) → WellFormed p → IsLinked p → IsTyped p t → PaysBefore p t → IsSweptUpTo limit p t c a → ArePricesUpTo limit p t c
