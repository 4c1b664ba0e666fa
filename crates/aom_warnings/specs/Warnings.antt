-- What an accepted image is warned of, and lists of such warnings.
use Rattle.std.specs.Prelude.{◌≡◌, ◌⊎◌, ◌<◌, ◌∷◌, [], ℕ, List, Contains, Option, None, Some}
use Rattle.aom_image.specs.Image.{Image}
use Rattle.aom_warnings.specs.Called.{IsNeverCalled}
use Rattle.aom_warnings.specs.Made.{IsNeverMade}
use Rattle.aom_warnings.specs.Fields.{IsNeverRead}
use Rattle.aom_warnings.specs.Registers.{IsNeverUsed}
use Rattle.aom_warnings.specs.Reached.{IsNeverReached}
use Rattle.aom_warnings.specs.declared.warning.Warning.{Warning}
use Rattle.aom_warnings.specs.declared.warning.Warning.TheVariants.{NeverCalled, NeverMade, NeverReached, NeverRead, NeverUsed}

-- it is so of an image
abbrev pub IsSo : Image → Warning → Type 0
IsSo p (NeverMade c) = IsNeverMade p c
IsSo p (NeverRead c f) = IsNeverRead p c f
IsSo p (NeverCalled m) = IsNeverCalled p m
IsSo p (NeverReached m place) = IsNeverReached p m place
IsSo p (NeverUsed m place r) = IsNeverUsed p m place r

-- ---- what a warning is about

-- an owning field of a class
abbrev pub OfField : ℕ → ℕ → Warning → Type 0
OfField c f (NeverRead class field) = (class ≡ c) × (field ≡ f)
OfField c f _ = ⊥

-- whether a place of a method is reached
abbrev pub OfReach : ℕ → ℕ → Warning → Type 0
OfReach m place (NeverReached method at) = (method ≡ m) × (at ≡ place)
OfReach m place _ = ⊥

-- what a place of a method writes
abbrev pub OfWriting : ℕ → ℕ → Warning → Type 0
OfWriting m place (NeverUsed method at r) = (method ≡ m) × (at ≡ place)
OfWriting m place _ = ⊥

-- a class
abbrev pub OfClass : ℕ → Warning → Type 0
OfClass c (NeverMade class) = class ≡ c
OfClass c (NeverRead class f) = class ≡ c
OfClass c _ = ⊥

-- a method
abbrev pub OfMethod : ℕ → Warning → Type 0
OfMethod m (NeverCalled method) = method ≡ m
OfMethod m (NeverReached method place) = method ≡ m
OfMethod m (NeverUsed method place r) = method ≡ m
OfMethod m _ = ⊥

-- ---- lists of warnings

-- those of an image, in a list made longer: what was there is there, what is told is so, and what is so of these is told
pub record Adds (p : Image) (these : Warning → Type 0) (before after : List Warning) : Type 0 where
  pub kept : (w : Warning) → Contains before w → Contains after w
  pub so : (w : Warning) → Contains after w → Contains before w ⊎ IsSo p w
  pub told : (w : Warning) → these w → IsSo p w → Contains after w

-- one more, where there is one
abbrev pub added : Option Warning → List Warning
added None = []
added (Some one) = one ∷ []

-- what is so of these is that one; or nothing is
abbrev pub TellsOne : Image → (Warning → Type 0) → Option Warning → Type 0
TellsOne p these None = (w : Warning) → these w → ¬ IsSo p w
TellsOne p these (Some one) = IsSo p one × ((w : Warning) → these w → IsSo p w → w ≡ one)

-- of the first so many things
abbrev pub OfFirst : (ℕ → Warning → Type 0) → ℕ → Warning → Type 0
OfFirst these count w = (k : ℕ) × (k < count) × these k w

-- all of an image
pub record AreAll (p : Image) (warnings : List Warning) : Type 0 where
  -- what is told is so
  pub so : (w : Warning) → Contains warnings w → IsSo p w
  -- and what is so is told
  pub told : (w : Warning) → IsSo p w → Contains warnings w
