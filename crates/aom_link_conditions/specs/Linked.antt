-- The conditions under which an image is linked.
use Rattle.std.specs.Prelude.{ℕ, IfSome, IsSome, slice_get}
use Rattle.aom_image.specs.Image.{Image}
use Rattle.aom_link_conditions.specs.Calls.{AllCallsOrdered}
use Rattle.aom_roles.specs.Classes.{ClassesOrdered}
use Rattle.aom_link_conditions.specs.Families.{AllContinue}
use Rattle.aom_link_conditions.specs.Overriding.{OverridersFit}
use Rattle.aom_link_conditions.specs.Jumps.{JumpIsValid}
use Rattle.aom_link_conditions.specs.Loops.{LoopsNest}
use Rattle.aom_link_conditions.specs.Needs.{AllNeedsMet, RolesSingle}
use Rattle.aom_link_conditions.specs.Roles.{main_of}
use Rattle.aom_roles.specs.Shapes.{AllShaped}

-- the jumps of each method go forward, and none of its places has a successor past its end
abbrev pub AllJumpsValid : Image → Type 0
AllJumpsValid p = (m : ℕ) → IfSome (slice_get p.methods m) (λ d. JumpIsValid d.code)

-- the loops of each method lie within each other or apart
abbrev pub AllLoopsNest : Image → Type 0
AllLoopsNest p = (m : ℕ) → IfSome (slice_get p.methods m) (λ d. LoopsNest d.code)

-- there is a main
abbrev pub HasMain : Image → Type 0
HasMain p = IsSome (main_of p)

-- a linked image: what it names comes before, each class has its methods and what its parent has, and each method its shape and what it needs to stand for another
pub record IsLinked (p : Image) : Type 0 where
  pub classes : ClassesOrdered p
  pub calls : AllCallsOrdered p
  pub needs : AllNeedsMet p
  pub single : RolesSingle p
  pub shapes : AllShaped p
  pub jumps : AllJumpsValid p
  pub loops : AllLoopsNest p
  pub main : HasMain p
  pub parents : AllContinue p
  pub overriders : OverridersFit p
