-- How many frames a method may need.
use Rattle.std.specs.Prelude.{ℕ, suc, ◌≤◌, ◌<◌, List, IsSome}
use Rattle.aom_image.specs.Image.{Image}
use Rattle.aom_image.specs.Views.{method_at}
use Rattle.aom_roles.specs.Tables.{at}
use Rattle.aom_static_bounds.specs.Calls.{MayCall}

-- so many frames, the lowest one of that method, and each one called by an instruction of the one below it
pub data Frames (p : Image) : ℕ → ℕ → Type 0 where
  alone : {m : ℕ} → IsSome (method_at p m) → Frames p m 1
  calling : {m k n : ℕ} → MayCall p m k → Frames p k n → Frames p m (suc n)

-- the most frames that a method may come to
pub record IsDepth (p : Image) (m n : ℕ) : Type 0 where
  pub frames : Frames p m n
  pub most : (k : ℕ) → Frames p m k → k ≤ n

-- no method may come to more than 256 frames
pub record DepthsWithin (p : Image) : Type 0 where
  pub within : (m n : ℕ) → Frames p m n → n ≤ 256

-- some method may
pub record IsTooDeep (p : Image) : Type 0 where
  pub method : ℕ
  pub count : ℕ
  pub frames : Frames p method count
  pub many : 256 < count

-- the depths of the methods, by number: what a method may call is less deep
pub record AreDepths (p : Image) (depths : List ℕ) : Type 0 where
  pub each : (m : ℕ) → IsSome (method_at p m) → IsDepth p m (at 0 depths m)
  pub within : (m : ℕ) → at 0 depths m ≤ 256
  pub less : (m k : ℕ) → MayCall p m k → at 0 depths k < at 0 depths m

pub record HasDepths (p : Image) : Type 0 where
  pub depths : List ℕ
  pub are : AreDepths p depths
