-- Owning fields that nothing reads.
use Rattle.std.specs.Prelude.{◌≡◌, ◌<◌, ◌≤◌, ◌==◌, ◌&&◌, ℕ, Bool, true, false, not, All, length, Option, Some, None}
use Rattle.aom_image.specs.Image.{Image}
use Rattle.aom_image.specs.Views.{fields_of}
use Rattle.aom_image.specs.declared.method.Method.{Method}
use Rattle.aom_image.specs.declared.method.Role.TheVariants.{Destruct}
use Rattle.aom_instructions.specs.declared.instr.Instr.{Instr}
use Rattle.aom_instructions.specs.declared.instr.Instr.TheVariants.{Take, JumpEmpty, Call, Trap}
use Rattle.aom_instructions.specs.declared.instr.Target.{Target}
use Rattle.aom_instructions.specs.declared.instr.Target.TheVariants.{Field}
use Rattle.aom_roles.specs.Families.{descends, fields_above, parent_of}
use Rattle.aom_roles.specs.Roles.{same_role}

-- the field that a call is made on
abbrev pub field_target : Target → Option ℕ
field_target (Field f) = Some f
field_target _ = None

-- the owning field that an instruction takes, calls through or tests
unfoldable pub field_read : Instr → Option ℕ
field_read (Take a f) = Some f
field_read (JumpEmpty f to) = Some f
field_read (Call target m first result) = field_target target
field_read (Trap target m first result) = field_target target
field_read _ = None

abbrev pub is_field : ℕ → Option ℕ → Bool
is_field f None = false
is_field f (Some g) = g == f

-- a method works on an object of that class or of one below it
abbrev pub is_below : Image → ℕ → Option ℕ → Bool
is_below p c None = false
is_below p c (Some d) = descends p d c

-- and it is no destructor
abbrev pub uses : Image → ℕ → Method → Bool
uses p c d = is_below p c d.class && not (same_role d.role Destruct)

-- where it does, none of its instructions reads the field
abbrev pub ReadsNot : Image → ℕ → ℕ → Method → Type 0
ReadsNot p c f d = uses p c d ≡ true → All (λ i. is_field f (field_read i) ≡ false) d.code

-- a field that the class itself declares, and that no method reads but for destructors
pub record IsNeverRead (p : Image) (c f : ℕ) : Type 0 where
  pub own : fields_above p (parent_of p c) ≤ f
  pub there : f < length (fields_of p c)
  pub unread : All (ReadsNot p c f) p.methods
