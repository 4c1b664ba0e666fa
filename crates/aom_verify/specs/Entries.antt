-- How many cleanup entries the states of a method have: fewer than there are places reached.
use Rattle.std.specs.Prelude.{ℕ, ◌≡◌, ◌<◌, ◌≤◌, ◌+◌, List, [], ◌∷◌, length, Some, None}
use Rattle.aom_image.specs.Image.{Image}
use Rattle.aom_image.specs.Views.{method_at}
use Rattle.aom_image.specs.declared.method.Method.{Method}
use Rattle.aom_abstract_state.specs.Needs.{Flow}
use Rattle.aom_abstract_state.specs.AbstractState.{AbstractState}
use Rattle.aom_roles.specs.Tables.{at}
use Rattle.aom_static_bounds.specs.Shapes.{Shapes}
use Rattle.aom_verify.specs.Change.{unreached_count}

pub record HasFewEntries (s : Shapes) : Type 0 where
  pub each : (pc : ℕ) (sh : AbstractState) → at None s pc ≡ Some sh → length sh.entries + unreached_count s < length s

-- a state that comes to a place has no more entries than there are places reached
abbrev pub IsFew : Shapes → AbstractState → Type 0
IsFew s sh = length sh.entries + unreached_count s ≤ length s

abbrev pub AllFew : Shapes → List Flow → Type 0
AllFew s [] = Unit {0}
AllFew s (way ∷ ways) = IsFew s way.1 × AllFew s ways

-- fewer entries than the method has places
pub record HasRoom (p : Image) (m : ℕ) (sh : AbstractState) : Type 0 where
  pub each : (d : Method) → method_at p m ≡ Some d → length sh.entries < length d.code
