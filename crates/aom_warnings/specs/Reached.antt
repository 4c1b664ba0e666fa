-- Places of a method to which no way leads from its beginning.
use Rattle.std.specs.Prelude.{◌≡◌, ◌<◌, ◌⊎◌, ◌↔◌, ℕ, suc, IsTrue, Bool, true, false, List, length, Option, Some, None, slice_get, slice_index_or}
use Rattle.aom_image.specs.Image.{Image}
use Rattle.aom_image.specs.Views.{method_at}
use Rattle.aom_image.specs.declared.method.Method.{Method}
use Rattle.aom_instructions.specs.Table.{transfer_of}
use Rattle.aom_instructions.specs.declared.instr.Instr.{Instr}
use Rattle.aom_instructions.specs.declared.transfer.Transfer.{Transfer}
use Rattle.aom_instructions.specs.declared.transfer.Transfer.TheVariants.{Onward, Jump, Branch, Begin, Repeat, Return, Leave}

-- where a method may go on behind a transfer at a place, whatever the words and owners are
abbrev pub LeadsBy : Transfer → (place next : ℕ) → Type 0
LeadsBy Onward place next = next ≡ suc place
LeadsBy (Jump to) place next = next ≡ to
LeadsBy (Branch condition to) place next = (next ≡ to) ⊎ (next ≡ suc place)
LeadsBy (Begin depth rounds) place next = next ≡ suc place
LeadsBy (Repeat depth to) place next = (next ≡ to) ⊎ (next ≡ suc place)
LeadsBy (Return a) place next = ⊥
LeadsBy (Leave a) place next = ⊥

unfoldable pub LeadsIn : Option Instr → (place next : ℕ) → Type 0
LeadsIn None place next = ⊥
LeadsIn (Some i) place next = LeadsBy (transfer_of i) place next

-- a way leads from a place of the code to another
abbrev pub Leads : List Instr → (place next : ℕ) → Type 0
Leads code place next = LeadsIn (slice_get code place) place next

-- ways lead to a place from the first one
pub data IsReached (code : List Instr) : ℕ → Type 0 where
  begins : IsReached code 0
  goes_on : (place next : ℕ) → IsReached code place → Leads code place next → IsReached code next

-- none leads to that place, which is there, but to the one before it
pub record IsCut (code : List Instr) (place : ℕ) : Type 0 where
  pub before : ℕ
  pub follows : place ≡ suc before
  pub there : place < length code
  pub reached : IsReached code before
  pub unreached : ¬ IsReached code place

unfoldable pub IsCutIn : Option Method → ℕ → Type 0
IsCutIn None place = ⊥
IsCutIn (Some d) place = IsCut d.code place

-- the first of places behind each other to which no way leads
abbrev pub IsNeverReached : Image → (m place : ℕ) → Type 0
IsNeverReached p m place = IsCutIn (method_at p m) place

-- ---- marks for the places of a code

abbrev pub is_marked : List Bool → ℕ → Bool
is_marked marks place = slice_index_or marks place false

-- just the places that are reached are marked
abbrev pub MarksReached : List Instr → List Bool → Type 0
MarksReached code marks = (place : ℕ) → place < length code → IsTrue (is_marked marks place) ↔ IsReached code place

-- a way leads from a place by that transfer to one that is not marked; or none does
abbrev pub OutBy : Transfer → List Bool → ℕ → Option ℕ → Type 0
OutBy t marks place None = (next : ℕ) → LeadsBy t place next → next < length marks → is_marked marks next ≡ true
OutBy t marks place (Some next) = LeadsBy t place next × (next < length marks) × (is_marked marks next ≡ false)

-- a way leads out of the marked places to that one, which is there
pub record LeadsOut (code : List Instr) (marks : List Bool) (next : ℕ) : Type 0 where
  pub from : ℕ
  pub marked : is_marked marks from ≡ true
  pub leads : Leads code from next
  pub there : next < length marks
  pub unmarked : is_marked marks next ≡ false

-- where a place is marked, so is each to which a way leads from it
abbrev pub Keeps : List Instr → List Bool → ℕ → Type 0
Keeps code marks place = is_marked marks place ≡ true → (next : ℕ) → Leads code place next → next < length marks → is_marked marks next ≡ true

-- none where no way leads out
abbrev pub WayOut : List Instr → List Bool → Option ℕ → Type 0
WayOut code marks None = (place : ℕ) → Keeps code marks place
WayOut code marks (Some next) = LeadsOut code marks next
