-- The bodies of loops in an image, and what linking promises of them.
use Rattle.std.specs.Prelude.{ℕ, suc, ◌≡◌, ◌≢◌, ◌<◌, ◌≤◌, Some}
use Rattle.aom_image.specs.Image.{Image}
use Rattle.aom_image.specs.Views.{instr_at, transfer_at}
use Rattle.aom_instructions.specs.declared.instr.Instr.{Instr}
use Rattle.aom_instructions.specs.declared.transfer.Transfer.TheVariants.{Begin, Repeat}
use Rattle.aom_link_conditions.specs.Jumps.{jump_of}

-- a loop that begins at a place, and the next that goes back to the place after it
pub record Body (p : Image) (m from to depth rounds : ℕ) : Type 0 where
  pub begins : transfer_at p m from ≡ Some (Begin depth rounds)
  pub later : from < to
  pub ends : transfer_at p m to ≡ Some (Repeat depth (suc from))

-- a place in the body
abbrev pub IsIn : ℕ → ℕ → ℕ → Type 0
IsIn from to place = (from < place) × (place ≤ to)

-- what linking has found of loops
pub record IsLooped (p : Image) : Type 0 where
  -- no jump leads into a body from outside, and no next
  pub jumps : (m place t : ℕ) (i : Instr) → instr_at p m place ≡ Some i → jump_of i ≡ Some t → (from to d n : ℕ) → Body p m from to d n → IsIn from to t → IsIn from to place
  pub next_places : (m place e t : ℕ) → transfer_at p m place ≡ Some (Repeat e t) → (from to d n : ℕ) → Body p m from to d n → IsIn from to t → IsIn from to place
  -- a loop has at least one round, and a next closes it
  pub begins : (m place d n : ℕ) → transfer_at p m place ≡ Some (Begin d n) → (0 < n) × (to : ℕ) × Body p m place to d n
  -- each next closes a loop, and no other closes that one
  pub closes : (m place d t : ℕ) → transfer_at p m place ≡ Some (Repeat d t) → (from : ℕ) × (n : ℕ) × Body p m from place d n × (t ≡ suc from)
  pub once : (m from to to' d n : ℕ) → Body p m from to d n → Body p m from to' d n → to ≡ to'
  -- two loops with a common place have two counters
  pub apart : (m from to d n from' to' d' n' place : ℕ) → Body p m from to d n → Body p m from' to' d' n' → from ≢ from' → IsIn from to place → IsIn from' to' place → d ≢ d'
