-- The one place whose instruction made a part of what is known what it is.
use Rattle.std.specs.Prelude.{ℕ, ◌≡◌, Bool, true, false, ◌&&◌, List, [], ◌∷◌, Some, None}
use Rattle.aom_image.specs.Image.{Image}
use Rattle.aom_roles.specs.Tables.{at}
use Rattle.aom_abstract_state.specs.AbstractState.{AbstractState, Known}
use Rattle.aom_abstract_state.specs.Needs.{Flow}
use Rattle.aom_abstract_state.specs.declared.why.Reason.{Reason}
use Rattle.aom_static_bounds.specs.Shapes.{Shapes}
use Rattle.aom_path_conflicts.specs.Conflicts.{LeadsOn}
use Rattle.aom_origins.specs.Subjects.{is_same, needed_subject}
use Rattle.aom_origins.specs.declared.subject.Subject.{Subject}

-- what a state knows, its cleanup entries aside
abbrev pub known_of : AbstractState → Known
known_of sh = record { registers = sh.registers; fields = sh.fields; states = sh.states; message_state = sh.message_state }

-- each of the ways leads to a state that has it so
abbrev pub all_so : Subject → Known → List Flow → Bool
all_so subject now [] = true
all_so subject now (way ∷ ways) = is_same subject (known_of way.1) now && all_so subject now ways

-- there are ways, and each does; an instruction that tests it leads to other states too
abbrev pub all_bring : Subject → Known → List Flow → Bool
all_bring subject now [] = false
all_bring subject now (way ∷ ways) = all_so subject now (way ∷ ways)

-- a state has it otherwise, and leads from a place to none but such as have it so
pub record Brings (p : Image) (m from : ℕ) (sh : AbstractState) (subject : Subject) (now : Known) : Type 0 where
  pub otherwise : is_same subject (known_of sh) now ≡ false
  pub ways : List Flow
  pub leads : LeadsOn p m from sh ways
  pub brings : all_bring subject now ways ≡ true

-- the state of that place does
pub record BringsFrom (p : Image) (m : ℕ) (s : Shapes) (subject : Subject) (now : Known) (from : ℕ) : Type 0 where
  pub shape : AbstractState
  pub there : at None s from ≡ Some shape
  pub brings : Brings p m from shape subject now

-- and that of no other
pub record IsOnly (p : Image) (m : ℕ) (s : Shapes) (subject : Subject) (now : Known) (place : ℕ) : Type 0 where
  pub brings : BringsFrom p m s subject now place
  pub alone : (other : ℕ) → BringsFrom p m s subject now other → other ≡ place

-- and the first place's state has it otherwise
pub record IsOrigin (p : Image) (m : ℕ) (s : Shapes) (subject : Subject) (now : Known) (place : ℕ) : Type 0 where
  pub only : IsOnly p m s subject now place
  pub first : AbstractState
  pub begins : at None s 0 ≡ Some first
  pub otherwise : is_same subject (known_of first) now ≡ false

-- of what the first need is about that is not met at a place
pub record HasOrigin (p : Image) (m : ℕ) (s : Shapes) (place : ℕ) (sh : AbstractState) (why : Reason) (origin : ℕ) : Type 0 where
  pub subject : Subject
  pub needed : needed_subject p m place sh why ≡ Some subject
  pub is : IsOrigin p m s subject (known_of sh) origin
