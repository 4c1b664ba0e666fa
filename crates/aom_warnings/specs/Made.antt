-- Classes of which no object is made.
use Rattle.std.specs.Prelude.{◌≡◌, ◌<◌, ℕ, Bool, false, All, length, Some, IfSome}
use Rattle.aom_image.specs.Image.{Image}
use Rattle.aom_image.specs.declared.method.Method.{Method}
use Rattle.aom_instructions.specs.Table.{action_of}
use Rattle.aom_instructions.specs.declared.action.Action.{Action}
use Rattle.aom_instructions.specs.declared.action.Action.TheVariants.{Make}
use Rattle.aom_instructions.specs.declared.instr.Instr.{Instr}
use Rattle.aom_roles.specs.Classes.{sessions_at}
use Rattle.aom_roles.specs.Families.{descends}

-- an action makes an object of that class or of one below it
abbrev pub makes_by : Image → ℕ → Action → Bool
makes_by p c (Make made) = descends p made c
makes_by p c _ = false

unfoldable pub makes : Image → ℕ → Instr → Bool
makes p c i = makes_by p c (action_of i)

abbrev pub MakesNot : Image → ℕ → Method → Type 0
MakesNot p c d = All (λ i. makes p c i ≡ false) d.code

-- no instruction makes an object of that class or of one below it, and the root is none
pub record IsUnmade (p : Image) (c : ℕ) : Type 0 where
  pub root : IfSome p.header.root (λ r. descends p r c ≡ false)
  pub code : All (MakesNot p c) p.methods

-- no class whose sessions are of that one has objects
abbrev pub ServesNot : Image → ℕ → Type 0
ServesNot p c = (s : ℕ) → sessions_at p s ≡ Some c → IsUnmade p s

pub record IsNeverMade (p : Image) (c : ℕ) : Type 0 where
  pub there : c < length p.classes
  pub unmade : IsUnmade p c
  pub unserved : ServesNot p c
