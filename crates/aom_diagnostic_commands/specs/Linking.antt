-- What is told of the place where an image fails a link condition.
use Rattle.std.specs.Prelude.{ℕ, ◌≡◌, List, [], ◌++◌, Option, Some, None}
use Rattle.aom_image.specs.Image.{Image}
use Rattle.aom_link_conditions.specs.Places.{PlaceOf}
use Rattle.aom_link_conditions.specs.declared.fault.LinkFault.{LinkFault}
use Rattle.aom_link_conditions.specs.declared.place.LinkPlace.{LinkPlace}
use Rattle.aom_diagnostics.specs.Linking.{link_source, link_text}
use Rattle.aom_commands.specs.Acceptable.{IsSerialized}

-- what is said of a place, where there is one
abbrev pub said_of : (LinkPlace → List ℕ) → Option LinkPlace → List ℕ
said_of say None = []
said_of say (Some place) = say place

-- what is said of the place where an image fails a fault's condition is written behind a text; where it keeps that, or that has no place, nothing
pub record ReportsPlace (p : Image) (fault : LinkFault) (say : LinkPlace → List ℕ) (before after : List ℕ) : Type 0 where
  pub place : Option LinkPlace
  pub fails : PlaceOf p fault place
  pub put : after ≡ before ++ said_of say place

-- so in the image that the bytes spell, as its listing has the place
abbrev pub AddsLink : (image : List ℕ) → LinkFault → List ℕ → List ℕ → Type 0
AddsLink image fault before after = (p : Image) → IsSerialized image p → ReportsPlace p fault (link_text p) before after

-- and as the text has it that the image is of
abbrev pub AddsLinkSource : (image text : List ℕ) → LinkFault → List ℕ → List ℕ → Type 0
AddsLinkSource image text fault before after = (p : Image) → IsSerialized image p → ReportsPlace p fault (link_source text) before after
