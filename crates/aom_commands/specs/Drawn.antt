-- Bytes and the graph of the image that they are.
use Rattle.std.specs.Prelude.{ℕ, ◌≡◌, List}
use Rattle.aom_image.specs.Image.{Image}
use Rattle.aom_link_conditions.specs.Linked.{IsLinked}
use Rattle.aom_typing_rules.specs.Typing.{Typing, IsTyped}
use Rattle.aom_budget.specs.Figures.{Figures, AreFigures}
use Rattle.aom_cost_report.specs.Dot.{dot_text}
use Rattle.aom_cost_report.specs.Names.{Names, unnamed}
use Rattle.aom_commands.specs.Acceptable.{IsSerialized}

-- the text is the graph of an image with its figures
pub record IsGraph (names : Names) (p : Image) (text : List ℕ) : Type 0 where
  pub figures : Figures
  pub are : AreFigures p figures
  pub drawn : text ≡ dot_text names p figures

-- the bytes are an image of which its budgets and its limits alone are left to look at, and the text is its graph
pub record IsDrawnBy (names : Names) (bytes text : List ℕ) : Type 0 where
  pub image : Image
  pub serialized : IsSerialized bytes image
  pub linked : IsLinked image
  pub typing : Typing
  pub typed : IsTyped image typing
  pub graph : IsGraph names image text

-- so where there are no names
abbrev pub IsDrawn : (bytes text : List ℕ) → Type 0
IsDrawn = IsDrawnBy unnamed
