-- What rules say of request states, and in which states a method begins.
use Rattle.std.specs.Prelude.{ℕ, Bool, true, not, Option, Some, None}
use Rattle.aom_image.specs.Image.{Image}
use Rattle.aom_image.specs.Views.{has, method_class, method_role}
use Rattle.aom_instructions.specs.declared.instr.Target.{Target}
use Rattle.aom_instructions.specs.declared.instr.Target.TheVariants.{This, Register, Field, Entry as On_entry}
use Rattle.aom_roles.specs.Tests.{only_if}
use Rattle.aom_roles.specs.Roles.{is_construct}
use Rattle.aom_roles.specs.Shapes.{kind_of}
use Rattle.aom_roles.specs.States.{issued, states_of}
use Rattle.aom_abstract_state.specs.Arguments.{before_of}

-- the object has no request that is not set active
abbrev pub unissued : ℕ → Bool
unissued states = not (has states issued)

-- the states in which an object of a class may be while nothing works on it
abbrev pub resting : Image → Option ℕ → ℕ
resting p class = states_of (kind_of p class)

module _ (p : Image) (m' : ℕ) where
  -- a method of that class begins in each state in which the caller's object may be; a static one asks nothing
  abbrev pub begins_here : Option ℕ → ℕ → Bool
  begins_here None states = true
  begins_here (Some c) states = has (before_of p m') states

  -- it begins in each state in which another object may be; one that is constructed is in its first
  abbrev pub begins_there : Bool
  begins_there = only_if (not (is_construct (method_role p m'))) (has (before_of p m') (resting p (method_class p m')))

  abbrev pub may_begin : Target → ℕ → Bool
  may_begin This states = begins_here (method_class p m') states
  may_begin (Register r) states = begins_there
  may_begin (Field f) states = begins_there
  may_begin (On_entry k) states = begins_there
