-- Where an instruction may go on, and what is asked of it.
use Rattle.std.specs.Prelude.{ℕ, suc, ◌≡◌, ◌<◌, ◌≤◌, ◌⊎◌, Bool, true, false, List, length, Option, Some, None, IfSome, IsTrue, slice_get}
use Rattle.aom_roles.specs.Firsts.{FirstNot}
use Rattle.aom_instructions.specs.Table.{transfer_of}
use Rattle.aom_instructions.specs.declared.instr.Instr.{Instr}
use Rattle.aom_instructions.specs.declared.transfer.Transfer.{Transfer}
use Rattle.aom_instructions.specs.declared.transfer.Transfer.TheVariants.{Begin, Branch, Jump, Leave, Repeat, Return}

-- where a transfer leads that does not go back to a loop's first place
abbrev pub jumped : Transfer → Option ℕ
jumped (Jump t) = Some t
jumped (Branch c t) = Some t
jumped _ = None

unfoldable pub jump_of : Instr → Option ℕ
jump_of i = jumped (transfer_of i)

-- whether a run may go on at the next place
abbrev pub passes : Transfer → Bool
passes (Jump t) = false
passes (Return r) = false
passes (Leave r) = false
passes _ = true

unfoldable pub goes_on : Instr → Bool
goes_on i = passes (transfer_of i)

-- a jump at a place goes forward within a method of so many places, and a next place is within it
pub record KeepsWithin (count place : ℕ) (i : Instr) : Type 0 where
  pub forward : IfSome (jump_of i) (λ t. place < t)
  pub within : IfSome (jump_of i) (λ t. t < count)
  pub ends : IsTrue (goes_on i) → suc place < count

abbrev pub AllKeepWithin : List Instr → Type 0
AllKeepWithin code = (place : ℕ) → IfSome (slice_get code place) (KeepsWithin (length code) place)

-- ---- the bodies of loops

abbrev pub begins : Transfer → Bool
begins (Begin d n) = true
begins _ = false

unfoldable pub begins_loop : Instr → Bool
begins_loop i = begins (transfer_of i)

-- where another round goes back to
abbrev pub repeated : Transfer → Option ℕ
repeated (Repeat d t) = Some t
repeated _ = None

unfoldable pub back_of : Instr → Option ℕ
back_of i = repeated (transfer_of i)

-- a loop at p, and a next at a later place q that goes back to the place after it
pub record Body (code : List Instr) (p q : ℕ) : Type 0 where
  pub begins : IfSome (slice_get code p) (λ i. IsTrue (begins_loop i))
  pub later : p < q
  pub back : IfSome (slice_get code q) (λ i. back_of i ≡ Some (suc p))

-- a jump at s leads to a place after p and up to q only from there
abbrev pub StaysOut : ℕ → ℕ → ℕ → Instr → Type 0
StaysOut p q s i = IfSome (jump_of i) (λ t. p < t → t ≤ q → (p < s) × (s ≤ q))

-- no jump leads into a body from outside
abbrev pub IsClosed : List Instr → ℕ → ℕ → Type 0
IsClosed code p q = (s : ℕ) → IfSome (slice_get code s) (StaysOut p q s)

abbrev pub EndsClosed : List Instr → ℕ → Type 0
EndsClosed code q = (p : ℕ) → Body code p q → IsClosed code p q

abbrev pub AllEndClosed : List Instr → Type 0
AllEndClosed code = (q : ℕ) → q < length code → EndsClosed code q

-- ---- the whole

-- a method's jumps go forward and into no loop, and no place has a successor past its end
pub record JumpIsValid (code : List Instr) : Type 0 where
  pub each : AllKeepWithin code
  pub bodies : AllEndClosed code

-- ---- a place that jumps as it may not

-- the first place whose jump leads from outside into a body
pub record JumpsInto (code : List Instr) (s : ℕ) : Type 0 where
  pub from : ℕ
  pub to : ℕ
  pub within : to < length code
  pub body : Body code from to
  pub first : FirstNot (StaysOut from to) code s

-- none where no jump leads into the one that ends at q
abbrev pub IntoEnd : List Instr → ℕ → Option ℕ → Type 0
IntoEnd code q None = EndsClosed code q
IntoEnd code q (Some s) = JumpsInto code s

abbrev pub IntoLoop : List Instr → Option ℕ → Type 0
IntoLoop code None = AllEndClosed code
IntoLoop code (Some s) = JumpsInto code s

-- the first that goes back, past the end or has no successor, or one that leads into a body
abbrev pub JumpFails : List Instr → ℕ → Type 0
JumpFails code s = FirstNot (KeepsWithin (length code)) code s ⊎ JumpsInto code s

-- none where the jumps are as they may be
abbrev pub BadJumpOf : List Instr → Option ℕ → Type 0
BadJumpOf code None = JumpIsValid code
BadJumpOf code (Some s) = JumpFails code s
