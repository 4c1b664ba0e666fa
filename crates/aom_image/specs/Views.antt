-- What an image says of its classes, methods and instructions, by their numbers.
use Rattle.std.specs.Prelude.{ℕ, Bool, false, ◌==◌, List, [], Option, Some, None, slice_get, bit_and}
use Rattle.aom_image.specs.Image.{Image}
use Rattle.aom_image.specs.declared.class.ClassDecl.{ClassDecl}
use Rattle.aom_instructions.specs.Table.{action_of, transfer_of}
use Rattle.aom_instructions.specs.declared.action.Action.{Action}
use Rattle.aom_instructions.specs.declared.instr.Instr.{Instr}
use Rattle.aom_instructions.specs.declared.transfer.Transfer.{Transfer}
use Rattle.aom_image.specs.declared.method.Argument.{Argument}
use Rattle.aom_image.specs.declared.method.Gives.{Gives}
use Rattle.aom_image.specs.declared.method.Gives.TheVariants.{Nothing}
use Rattle.aom_image.specs.declared.method.Method.{Method}
use Rattle.aom_image.specs.declared.method.Role.{Role}
use Rattle.aom_image.specs.declared.method.Thing.{Thing}

-- each of these bits is in the set
abbrev pub has : ℕ → ℕ → Bool
has set bits = bit_and set bits == bits

unfoldable pub class_at : Image → ℕ → Option ClassDecl
class_at p c = slice_get p.classes c

unfoldable pub method_at : Image → ℕ → Option Method
method_at p m = slice_get p.methods m

unfoldable pub instr_in : Option Method → ℕ → Option Instr
instr_in None place = None
instr_in (Some m) place = slice_get m.code place

-- the instruction at a place of a method
abbrev pub instr_at : Image → ℕ → ℕ → Option Instr
instr_at p m place = instr_in (method_at p m) place

-- where it goes on
abbrev pub transfer_in : Option Instr → Option Transfer
transfer_in None = None
transfer_in (Some i) = Some (transfer_of i)

abbrev pub transfer_at : Image → ℕ → ℕ → Option Transfer
transfer_at p m place = transfer_in (instr_at p m place)

-- and what it does with methods and objects
abbrev pub action_in : Option Instr → Option Action
action_in None = None
action_in (Some i) = Some (action_of i)

abbrev pub action_at : Image → ℕ → ℕ → Option Action
action_at p m place = action_in (instr_at p m place)

unfoldable pub fields_in : Option ClassDecl → List Thing
fields_in None = []
fields_in (Some c) = c.fields

-- what the owning fields of a class may own
abbrev pub fields_of : Image → ℕ → List Thing
fields_of p c = fields_in (class_at p c)

unfoldable pub leaves_in : Option Method → Bool
leaves_in None = false
leaves_in (Some m) = has m.flags.0 1

-- a method may leave
abbrev pub leaves : Image → ℕ → Bool
leaves p m = leaves_in (method_at p m)

unfoldable pub quiet_in : Option Method → Bool
quiet_in None = false
quiet_in (Some m) = has m.flags.0 2

-- a method is quiet
abbrev pub is_quiet : Image → ℕ → Bool
is_quiet p m = quiet_in (method_at p m)

unfoldable pub gives_in : Option Method → Gives
gives_in None = Nothing
gives_in (Some m) = m.gives

-- what a method gives back
abbrev pub gives_of : Image → ℕ → Gives
gives_of p m = gives_in (method_at p m)

unfoldable pub arguments_in : Option Method → List Argument
arguments_in None = []
arguments_in (Some m) = m.arguments

abbrev pub arguments_of : Image → ℕ → List Argument
arguments_of p m = arguments_in (method_at p m)

unfoldable pub role_in : Option Method → Option Role
role_in None = None
role_in (Some m) = Some m.role

-- what a method is for
abbrev pub method_role : Image → ℕ → Option Role
method_role p m = role_in (method_at p m)

unfoldable pub class_in : Option Method → Option ℕ
class_in None = None
class_in (Some m) = m.class

-- the class whose objects a method works on
abbrev pub method_class : Image → ℕ → Option ℕ
method_class p m = class_in (method_at p m)
