-- Methods that nothing calls.
use Rattle.std.specs.Prelude.{◌≡◌, ◌==◌, ◌||◌, ℕ, Bool, true, false, All, Option, Some, None}
use Rattle.aom_image.specs.Image.{Image}
use Rattle.aom_image.specs.Views.{method_at}
use Rattle.aom_image.specs.declared.method.Method.{Method}
use Rattle.aom_image.specs.declared.method.Role.{Role}
use Rattle.aom_image.specs.declared.method.Role.TheVariants.{Do, Undo}
use Rattle.aom_instructions.specs.Table.{action_of}
use Rattle.aom_instructions.specs.declared.action.Action.{Action}
use Rattle.aom_instructions.specs.declared.action.Action.TheVariants.{Call, PushOperation}
use Rattle.aom_instructions.specs.declared.instr.Instr.{Instr}
use Rattle.aom_link_conditions.specs.Overriding.{overrides}

-- the method that an action calls, traps or pushes
abbrev pub named_by : Action → Option ℕ
named_by (Call mode target m first result) = Some m
named_by (PushOperation a m) = Some m
named_by _ = None

unfoldable pub named_method : Instr → Option ℕ
named_method i = named_by (action_of i)

-- a call of that method may run m: it is m itself, or m overrides it
abbrev pub may_run : Image → ℕ → Option ℕ → Bool
may_run p m None = false
may_run p m (Some called) = (m == called) || overrides p m called

-- no instruction of a method may run m
abbrev pub CallsNot : Image → ℕ → Method → Type 0
CallsNot p m d = All (λ i. may_run p m (named_method i) ≡ false) d.code

-- roles of methods that run only where an instruction names them
abbrev pub is_named_role : Role → Bool
is_named_role Do = true
is_named_role Undo = true
is_named_role _ = false

unfoldable pub is_named_in : Option Method → Bool
is_named_in None = false
is_named_in (Some d) = is_named_role d.role

-- it would run only where an instruction calls, traps or pushes it or what it overrides, and none does
pub record IsNeverCalled (p : Image) (m : ℕ) : Type 0 where
  pub named : is_named_in (method_at p m) ≡ true
  pub uncalled : All (CallsNot p m) p.methods
