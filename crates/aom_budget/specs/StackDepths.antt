-- What the tables of depths and of heights say while they are filled, from the lowest method up.
use Rattle.std.specs.Prelude.{ℕ, ◌≡◌, ◌≤◌, ◌<◌, ◌+◌, ◌⊎◌, min, List, [], length, Some, None}
use Rattle.aom_image.specs.Image.{Image}
use Rattle.aom_image.specs.Views.{instr_at}
use Rattle.aom_instructions.specs.declared.instr.Instr.{Instr}
use Rattle.aom_abstract_state.specs.AbstractState.{AbstractState}
use Rattle.aom_roles.specs.Tables.{at}
use Rattle.aom_static_bounds.specs.Shapes.{Shapes}
use Rattle.aom_static_bounds.specs.Charges.{Charge, A_call, charge_of}
use Rattle.aom_static_bounds.specs.Calls.{Among, bodies, callees}
use Rattle.aom_static_bounds.specs.Depths.{Frames}
use Rattle.aom_static_bounds.specs.Heights.{Heights}

-- the greatest of some numbers, none of which counts for more than a cap; 0 where there are none
pub record IsMost (cap : ℕ) (some : ℕ → Type 0) (n : ℕ) : Type 0 where
  pub above : (k : ℕ) → some k → min k cap ≤ n
  pub met : (n ≡ 0) ⊎ ((k : ℕ) × some k × (n ≡ min k cap))

-- the methods that may be entered for what is charged for
abbrev pub entered_for : Image → Charge → List ℕ
entered_for p (A_call k) = bodies p k
entered_for p _ = []

-- those that an instruction may enter, with a trap or without
abbrev pub entered : Image → Instr → List ℕ
entered p i = entered_for p (charge_of i)

-- so many of one of those methods
pub record OfSome (of : ℕ → ℕ → Type 0) (methods : List ℕ) (n : ℕ) : Type 0 where
  pub method : ℕ
  pub among : Among method methods
  pub has : of method n

-- the own ones, alone or with others
abbrev pub Joined : ℕ → (ℕ → Type 0) → ℕ → Type 0
Joined own others n = (n ≡ own) ⊎ ((k : ℕ) × others k × (n ≡ own + k))

-- a reached place comes to so many: its own, alone or with those of a method that it calls
pub record ComesTo (p : Image) (own : AbstractState → ℕ) (calls : AbstractState → Instr → List ℕ) (of : ℕ → ℕ → Type 0) (m : ℕ) (s : Shapes) (place n : ℕ) : Type 0 where
  pub shape : AbstractState
  pub there : at None s place ≡ Some shape
  pub instr : Instr
  pub stands : instr_at p m place ≡ Some instr
  pub is : Joined (own shape) (OfSome of (calls shape instr)) n

abbrev pub FramesAt : Image → ℕ → Shapes → ℕ → ℕ → Type 0
FramesAt p m = ComesTo p (λ sh. 1) (callees p m) (Frames p) m

abbrev pub EntriesAt : Image → ℕ → Shapes → ℕ → ℕ → Type 0
EntriesAt p m = ComesTo p (λ sh. length sh.entries) (λ sh i. entered p i) (Heights p) m

-- a place below a count comes to so many
pub record Before (at_place : ℕ → ℕ → Type 0) (count n : ℕ) : Type 0 where
  pub place : ℕ
  pub below : place < count
  pub comes : at_place place n

-- a number for each method, right for those below a count, and 0 for the others
pub record IsFilled (p : Image) (cap : ℕ) (of : ℕ → ℕ → Type 0) (count : ℕ) (table : List ℕ) : Type 0 where
  pub size : length table ≡ length p.methods
  pub each : (m : ℕ) → m < count → IsMost cap (of m) (at 0 table m)
  pub others : (m : ℕ) → count ≤ m → at 0 table m ≡ 0

-- frames count up to 257, and entries up to 1,025: one more than a method may come to
pub record AreFilled (p : Image) (count : ℕ) (depths heights : List ℕ) : Type 0 where
  pub deep : IsFilled p 257 (Frames p) count depths
  pub high : IsFilled p 1025 (Heights p) count heights

pub record KeepsTo (most : ℕ) (table : List ℕ) : Type 0 where
  pub each : (m : ℕ) → at 0 table m ≤ most

pub record Exceeds (most : ℕ) (table : List ℕ) : Type 0 where
  pub method : ℕ
  pub within : method < length table
  pub more : most < at 0 table method
