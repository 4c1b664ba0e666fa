-- The strongest typing: it reaches no place that some typing does not reach, and there it says as much as any.
use Rattle.std.specs.Prelude.{ℕ, ◌≡◌, IsSome, [], Option, None}
use Rattle.aom_image.specs.Image.{Image}
use Rattle.aom_image.specs.Views.{method_at}
use Rattle.aom_abstract_state.specs.AbstractState.{AbstractState}
use Rattle.aom_roles.specs.Tables.{at}
use Rattle.aom_typing_rules.specs.Typing.{Typing, IsTyped}
use Rattle.aom_static_bounds.specs.Shapes.{Shapes, IsBelow, IsMethodTyped}

-- the strongest of a method
pub record IsMethodStrongest (p : Image) (m : ℕ) (s : Shapes) : Type 0 where
  pub typed : IsMethodTyped p m s
  pub least : (t : Shapes) → IsMethodTyped p m t → IsBelow t s

-- the strongest of an image has the strongest states of each method
pub record IsStrongest (p : Image) (t : Typing) : Type 0 where
  pub typed : IsTyped p t
  pub each : (m : ℕ) → IsSome (method_at p m) → IsMethodStrongest p m (at [] t m)

-- the state of a place in the strongest typing, none where the place is not reached
pub record IsShapeAt (p : Image) (m pc : ℕ) (shape : Option AbstractState) : Type 0 where
  pub states : Shapes
  pub strongest : IsMethodStrongest p m states
  pub there : shape ≡ at None states pc
