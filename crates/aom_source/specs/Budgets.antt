-- The budget that is written of main where the source says none.
use Rattle.std.specs.Prelude.{ℕ, ◌≡◌, min}
use Rattle.aom_image.specs.Image.{Image}
use Rattle.aom_budget.specs.Figures.{Figures, AreFigures, main_by}

-- it is what main's dispatch takes at most, in 32 bits
abbrev pub IsCostOfMain : (p : Image) → (budget : ℕ) → Type 0
IsCostOfMain p budget = (f : Figures) × AreFigures p f × (budget ≡ min (main_by p f.prices) 4294967295)
