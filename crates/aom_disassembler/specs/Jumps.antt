-- The places to which a method's instructions jump.
use Rattle.std.specs.Prelude.{◌≡◌, ◌<◌, ℕ, Bool, false, List, Option, slice_index_or}
use Rattle.std.specs.List.{list_any}
use Rattle.aom_instructions.specs.Operands.{place_said}
use Rattle.aom_instructions.specs.Table.{operands}
use Rattle.aom_instructions.specs.declared.instr.Instr.{Instr}
use Rattle.aom_syntax.specs.Classes.{is_at}

-- where an instruction jumps to: the place among its operands
abbrev pub jump_of : Instr → Option ℕ
jump_of i = place_said (operands i).d

-- whether an instruction of the code jumps to that place
abbrev pub is_target : List Instr → ℕ → Bool
is_target code place = list_any (λ i. is_at place (jump_of i)) code

-- a table that says of each place whether an instruction of the code jumps to it
abbrev pub Reports : List Bool → List Instr → Type 0
Reports table code = (place : ℕ) → place < 1024 → slice_index_or table place false ≡ is_target code place
